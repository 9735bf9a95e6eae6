use Rattle.std.proofs.Common.{◌≡◌, take}
use Rattle.graph_core.proofs.Common.{graph_of}
use Rattle.contraction.proofs.place_pairs.graph_with.Given as goal

abbrev pub invariant-loop-pair : goal.invariant-loop-pair
invariant-loop-pair l = l.graph ≡ graph_of l.n (take l.pair-index l.pairs)
