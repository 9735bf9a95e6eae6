use Rattle.allowed_edges.proofs.from_counting.Common.{sym, subst, All, IsRisingIn}
use Rattle.plain_graph.proofs.Subsets.{subsets-rising}
use Rattle.plain_graph.proofs.edge_sets.edge_sets.Goals as goal

pub add_with_next-requires-clause-below : goal.add_with_next-requires-clause-below
add_with_next-requires-clause-below c = subst (All (IsRisingIn c.loop-i.i)) (sym c.loop-i.invariant) (subsets-rising c.loop-i.i)
