use Rattle.graph_core.proofs.from_counting.Common.{◌≡◌, ℕ, true, length, last_of, mem, Within}
use Rattle.graph_core.proofs.Common.{block}
use Rattle.tight_cuts.proofs.clusters.named_in.Given as goal

abbrev pub invariant-loop-i : goal.invariant-loop-i
invariant-loop-i l = (j : ℕ) → mem l.places j ≡ true → Within (length l.p.blocks) j × (mem l.set (last_of (block l.p.blocks j)) ≡ true)
