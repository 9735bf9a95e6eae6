use Rattle.vset_core.proofs.from_counting.Common.{◌≡◌, ◌-◌, false, some}
use Rattle.graph_core.proofs.Simplicity.{repeats}
use Rattle.graph_core.proofs.graph.MultiGraph.repeats.Given as goal

abbrev pub invariant-loop-f : goal.invariant-loop-f
invariant-loop-f l = some (l.f - 1) (repeats l.self l.e) ≡ false
