use Rattle.allowed_edges.proofs.pairs.settle_edge.Goals as goal

pub settle_pairs-requires-clause-base : goal.settle_pairs-requires-clause-base
settle_pairs-requires-clause-base c = c.in_ok-base_with_edge.ensures.some c.in-Some.base c.in-Some.is
