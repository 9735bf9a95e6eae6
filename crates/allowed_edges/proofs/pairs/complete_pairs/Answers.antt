use Rattle.graph_core.proofs.from_counting.Common.{subst, mem}
use Rattle.graph_core.proofs.Common.{IsPerfect}
use Rattle.match_core.specs.Common.{edges_of}
use Rattle.allowed_edges.proofs.pairs.complete_pairs.Goals as goal

pub settle_edges-requires-clause-perfect : goal.settle_edges-requires-clause-perfect
settle_edges-requires-clause-perfect c = subst (λ xs. IsPerfect c.args.g.now (mem xs) (mem (edges_of c.in-Some.kept))) c.empty.ensures (c.in_ok-perfect_without.ensures.perfect c.in-Some.kept c.in-Some.is)
