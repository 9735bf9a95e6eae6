use Rattle.graph_core.proofs.from_counting.Common.{◌∙◌, sym, all_in_true, mem}
use Rattle.tight_cuts.proofs.OneSided.{alone, none_parted}
use Rattle.tight_cuts.proofs.quiet_edges.is_quiet.Goals as goal

pub widened-near-requires-clause-near : goal.widened-near-requires-clause-near
widened-near-requires-clause-near c = alone c.args.g.now c.args.e c.in-Some.start c.one.result c.one.ensures

pub returns-then-is_subset-clause-quiet : goal.returns-then-is_subset-clause-quiet
returns-then-is_subset-clause-quiet c = λ q.
    none_parted c.args.g.now c.keeps_limits.ensures.multigraph.ends c.args.e c.requires.edge (mem c.widened-near.result) c.widened-near.ensures
    (λ v w n m. all_in_true c.without_ends-others.result (mem c.widened-near.result) (sym c.is_subset.ensures ∙ c.if-is_subset.true) v (c.without_ends-others.ensures v w n m))

pub returns-in_ok-reach-in-Some-2-clause-quiet : goal.returns-in_ok-reach-in-Some-2-clause-quiet
returns-in_ok-reach-in-Some-2-clause-quiet c = λ q.
    none_parted c.args.g.now c.keeps_limits.ensures.multigraph.ends c.args.e c.requires.edge (mem c.in_ok-reach-in-Some-2.reach) c.in_ok-reach-in-Some-2.ensures.reach
    (λ v w n m. all_in_true c.without_ends-others.result (mem c.in_ok-reach-in-Some-2.reach) (sym c.is_subset-in-Some-2.ensures ∙ q) v (c.without_ends-others.ensures v w n m))

pub reach_of-requires-clause-base : goal.reach_of-requires-clause-base
reach_of-requires-clause-base c = c.in_ok-base_with_edge.ensures.some c.in-Some-2.base c.in-Some-2.is
