use Rattle.graph_core.proofs.from_counting.Common.{◌∙◌, sym, arith, not-false}
use Rattle.barrier_kit.proofs.from_allowed_edges.PairSteps.{apart_shared, share_some}
use Rattle.tight_cuts.proofs.tightness.is_to_ask.Goals as goal

pub returns-clause-none : goal.returns-clause-none
returns-clause-none c q cf together =
    let v = share_some c.args.g.now c.args.e c.args.f c.keeps_limits.ensures.multigraph.ends c.requires.first (sym c.share_end.ensures ∙ not-false c.share_end.result q) in
    apart_shared c.args.g.now c.args.e c.args.f v.0 (λ e. let l = c.requires.later in absurd (omega arith)) c.requires.first c.requires.second v.1 v.2 v.3 together
