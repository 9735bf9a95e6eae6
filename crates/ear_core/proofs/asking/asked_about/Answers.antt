use Rattle.two_ears.specs.from_match_search.Common.{marks}
use Rattle.ear_core.proofs.EngineGraphs.{asked-listed, outside-is}
use Rattle.ear_core.proofs.asking.asked_about.Goals as goal

pub returns-clause-asked : goal.returns-clause-asked
returns-clause-asked c =
    let g = c.args.g.now in
    let f = marks c.args.mark.now in
    asked-listed g f (record { stage = c.in_ok-stage.stage; outside = c.minus-outside.result }) c.in_ok-stage.ensures
    (outside-is g f c.order.result c.full.result c.args.met c.minus-outside.result c.order.ensures.is c.full.ensures.members c.requires.met c.minus-outside.ensures)
