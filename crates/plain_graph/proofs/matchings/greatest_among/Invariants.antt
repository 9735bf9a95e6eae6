use Rattle.allowed_edges.proofs.from_counting.Common.{mem}
use Rattle.plain_graph.proofs.Tries.{IsGreatestSoFar}
use Rattle.plain_graph.proofs.matchings.greatest_among.Given as goal

abbrev pub invariant-loop-edges : goal.invariant-loop-edges
invariant-loop-edges l = IsGreatestSoFar l.graph (mem l.removed) l.sets l.edges-index l.most
