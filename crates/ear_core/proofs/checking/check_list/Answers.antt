use Rattle.std.proofs.Common.{ap, map}
use Rattle.two_ears.specs.from_match_search.Common.{marks}
use Rattle.ear_core.specs.Common.{ears_of, step_of}
use Rattle.ear_core.proofs.Judging.{one-stage, judged-accepted, judged-refused}
use Rattle.ear_core.proofs.checking.check_list.Goals as goal

pub check_steps-requires-clause-stage : goal.check_steps-requires-clause-stage
check_steps-requires-clause-stage c = one-stage c.args.g.now c.keeps_limits.ensures.multigraph (marks c.in_ok-marked.marked.mark.items) c.args.list.now.start c.requires.fits.start c.in_ok-marked.ensures.each

pub returns-clause-accepted : goal.returns-clause-accepted
returns-clause-accepted c =
    judged-accepted c.args.g.now c.keeps_limits.ensures.multigraph _ (ears_of c.args.list.now) c.requires.fits.start c.in_ok-marked.ensures.each (map step_of c.as_slice-steps.result.now) (ap (map step_of) c.as_slice-steps.ensures) c.check_steps.result c.check_steps.ensures

pub returns-clause-refused : goal.returns-clause-refused
returns-clause-refused c =
    judged-refused c.args.g.now c.keeps_limits.ensures.multigraph _ (ears_of c.args.list.now) c.requires.fits.start c.in_ok-marked.ensures.each (map step_of c.as_slice-steps.result.now) (ap (map step_of) c.as_slice-steps.ensures) c.check_steps.result c.check_steps.ensures
