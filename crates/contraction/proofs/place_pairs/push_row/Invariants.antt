use Rattle.graph_core.proofs.from_counting.Common.{◌≡◌, ◌++◌, map, pair_with}
use Rattle.graph_core.proofs.Common.{pair_of}
use Rattle.contraction.proofs.place_pairs.push_row.Given as goal

abbrev pub invariant-loop-b : goal.invariant-loop-b
invariant-loop-b l = map pair_of l.fn.pairs.items ++ map (pair_with l.a) l.fn.row ≡ map pair_of l.pairs.items ++ map (pair_with l.a) l.b-iterator
