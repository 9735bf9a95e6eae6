use Rattle.graph_core.proofs.from_counting.Common.{◌∙◌, ◌||◌, ◌==◌, sym, ap, mem}
use Rattle.graph_core.proofs.Common.{first_end}
use Rattle.barrier_kit.proofs.from_allowed_edges.PairSteps.{held_together}
use Rattle.tight_cuts.proofs.OneSided.{both_ends}
use Rattle.tight_cuts.proofs.quiet_edges.widened_by.Goals as goal

pub returns : goal.returns
returns c =
    both_ends c.args.g.now c.args.e c.args.f c.requires.edge c.requires.other c.if-f-e.false (held_together c.args.g.now 1 c.args.pairs.now c.requires.begun c.args.e c.args.f (sym c.both.ensures ∙ c.if-not-both.false))
    (mem c.args.reach) c.requires.reach (sym c.is_in_cut.ensures ∙ c.if-not-is_in_cut.false) (mem c.with-2.result)
    (λ v. c.with-2.ensures v ∙ ap (λ b. b || (c.ends-ends.result.b == v)) (c.with.ensures v ∙ ap (λ a. mem c.args.reach v || (a == v)) c.ends-ends.ensures.first) ∙ ap (λ b. (mem c.args.reach v || (first_end c.args.g.now c.args.f == v)) || (b == v)) c.ends-ends.ensures.second)
