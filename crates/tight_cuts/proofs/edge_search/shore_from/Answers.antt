use Rattle.graph_core.proofs.from_counting.Common.{◌∙◌, ap₂, min, max, both_ways}
use Rattle.tight_cuts.proofs.EdgePairs.{leads-test, skip_first}
use Rattle.tight_cuts.proofs.edge_search.shore_from.Goals as goal

pub returns-then-not-leads-clause-none : goal.returns-then-not-leads-clause-none
returns-then-not-leads-clause-none c n = skip_first c.args.g.now c.keeps_limits.ensures c.requires.leaders.covered c.args.e c.requires.leaders.edge c.args.leaders.now c.requires.leaders.led c.args.x c.requires.before
    (λ l. both_ways c.leads.result c.if-not-leads.true (c.leads.ensures ∙ leads-test c.args.g.now c.args.e c.args.leaders.now c.min-a.result c.max-b.result c.args.x (c.min-a.ensures ∙ ap₂ min c.ends-ends.ensures.first c.ends-ends.ensures.second) (c.max-b.ensures ∙ ap₂ max c.ends-ends.ensures.first c.ends-ends.ensures.second) l))
