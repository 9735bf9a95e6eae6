use Rattle.graph_core.proofs.from_counting.Common.{mem}
use Rattle.two_ears.specs.from_match_search.Common.{marks}
use Rattle.ear_core.proofs.StageClasses.{asked-classes}
use Rattle.ear_core.proofs.StageMates.{names-listed}
use Rattle.ear_core.proofs.stage.Stage.by.Goals as goal

pub with_mates-requires-clause-matched : goal.with_mates-requires-clause-matched
with_mates-requires-clause-matched c =
    let mates = c.in_ok-mate.ensures.mates in
    let asked = c.in_ok-asked.asked in
    names-listed c.args.g.now (marks c.args.mark.now) mates.0 (λ e w t. mates.2 e t) asked.stage c.in_ok-asked.ensures.stage (mem asked.outside) c.in_ok-asked.ensures.asked.outside c.in_ok-mate.mate.items c.in_ok-mate.ensures.long mates.1

pub with_mates-requires-clause-classes : goal.with_mates-requires-clause-classes
with_mates-requires-clause-classes c = λ covered. asked-classes c.args.g.now c.keeps_limits.ensures.multigraph.ends (marks c.args.mark.now) c.requires.stage c.in_ok-asked.asked c.in_ok-asked.ensures.asked
