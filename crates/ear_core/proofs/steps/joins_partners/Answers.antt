use Rattle.std.proofs.Common.{◌∙◌, sym}
use Rattle.ear_core.specs.Common.{ear_of}
use Rattle.ear_core.proofs.MatchedStages.{first-ear-fits, known-step}
use Rattle.graph_core.proofs.Common.{size}
use Rattle.ear_core.proofs.steps.joins_partners.Goals as goal

pub last_of-requires : goal.last_of-requires
last_of-requires c = first-ear-fits c.args.g.now.order (size c.args.g.now) (ear_of c.args.step.now.first) c.args.step.now.second c.requires.fits

pub returns-in_ok-row-in-None-clause-known : goal.returns-in_ok-row-in-None-clause-known
returns-in_ok-row-in-None-clause-known c = λ yes f before stage step.
    let g = c.args.g.now in
    let is = c.keeps_limits.ensures.multigraph.ends in
    let last = c.last_of.result in
    let p = (c.in_ok-row-in-None.ensures.row g before.stage is before.asks last).0 (sym c.contains.ensures ∙ yes) in
    known-step g is f (ear_of c.args.step.now.first) c.args.step.now.second c.in-None.is last c.last_of.ensures.last stage step (before.partners c.args.step.now.first.«from» last p)
