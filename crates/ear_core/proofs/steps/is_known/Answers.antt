use Rattle.std.proofs.Common.{◌∙◌, sym}
use Rattle.ear_core.specs.Common.{next_stage, step_of}
use Rattle.ear_core.proofs.WholeStages.{covered-stage}
use Rattle.ear_core.proofs.steps.is_known.Goals as goal

pub returns-then-is_whole-clause-known : goal.returns-then-is_whole-clause-known
returns-then-is_whole-clause-known c = λ yes f before stage step same.
    let whole = c.is_whole.ensures in
    covered-stage c.args.g.now (next_stage f (step_of c.args.step.now)) (λ e w. sym (same e) ∙ whole.edges c.if-is_whole.true e w) c.keeps_limits.ensures.multigraph (c.requires.covered (whole.covered c.if-is_whole.true))

pub returns-clause-known : goal.returns-clause-known
returns-clause-known c = λ yes f before stage step same. c.in_ok-joins.ensures.known yes f before stage step
