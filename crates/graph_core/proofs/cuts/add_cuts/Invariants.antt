use Rattle.std.proofs.Common.{◌≡◌, fold, take}
use Rattle.graph_core.specs.Common.{with_cut}
use Rattle.graph_core.proofs.cuts.add_cuts.Given as goal

abbrev pub invariant-loop-shore : goal.invariant-loop-shore
invariant-loop-shore l = l.cuts ≡ fold (with_cut l.n) l.initial.cuts (take l.shore-index l.shores)
