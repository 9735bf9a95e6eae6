use Rattle.graph_core.proofs.from_counting.Common.{◌≡◌, ℕ, ◌&&◌, mem, some}
use Rattle.graph_core.proofs.Common.{block}
use Rattle.contraction.proofs.partition.union_at.Given as goal

abbrev pub invariant-loop-i : goal.invariant-loop-i
invariant-loop-i l = (v : ℕ) → mem l.union v ≡ some l.i (λ i. mem l.s i && mem (block l.blocks i) v)
