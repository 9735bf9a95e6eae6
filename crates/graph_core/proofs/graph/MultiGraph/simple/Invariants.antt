use Rattle.vset_core.proofs.from_counting.Common.{◌≡◌, ◌-◌, ◌<◌, false, ℕ, Within, some}
use Rattle.graph_core.specs.Common.{size}
use Rattle.graph_core.proofs.Simplicity.{repeats}
use Rattle.graph_core.proofs.graph.MultiGraph.simple.Given as goal

abbrev pub invariant-loop-e : goal.invariant-loop-e
invariant-loop-e l = (e : ℕ) → Within (size l.self) e → e < l.e → some (e - 1) (repeats l.self e) ≡ false
