use Rattle.barrier_kit.specs.from_allowed_edges.PairTables.{edge_lists}
use Rattle.tight_cuts.proofs.BesideGraphs.{BesideSoFar}
use Rattle.tight_cuts.proofs.pieces.graph_beside.Given as goal

abbrev pub invariant-loop-k : goal.invariant-loop-k
invariant-loop-k l = BesideSoFar l.g (edge_lists l.pairs) l.e l.k l.beside
