use Rattle.std.proofs.Common.{rules, ◌∙◌}
use Rattle.two_ears.specs.from_match_search.Common.{marks}
use Rattle.ear_core.specs.Common.{ear_of}
use Rattle.ear_core.proofs.FaultPlaces.{at-first, at-neither, at-second}
use Rattle.ear_core.proofs.fault_places.place_of_two.Goals as goal

pub returns-in-Err : goal.returns-in-Err
returns-in-Err c = at-first c.args.g.now (marks c.args.marked.now.mark.items) (ear_of c.args.first.now) (ear_of c.args.second.now) c.in-Err.edge (search rules) (search rules)

pub returns-in-Ok-passed : goal.returns-in-Ok-passed
returns-in-Ok-passed c = c.nowhere.ensures ∙ at-neither c.args.g.now (marks c.args.marked.now.mark.items) (ear_of c.args.first.now) (ear_of c.args.second.now) c.in-Ok.path.inner c.as_slice.result.now (search rules) c.in-Ok.ensures.inner c.as_slice.ensures c.in-Ok-passed.ensures.passes

pub returns-in-Err-passed : goal.returns-in-Err-passed
returns-in-Err-passed c = at-second c.args.g.now (marks c.args.marked.now.mark.items) (ear_of c.args.first.now) (ear_of c.args.second.now) c.in-Ok.path.inner c.as_slice.result.now (search rules) c.in-Ok.ensures.inner c.as_slice.ensures c.in-Err-passed.edge c.in-Err-passed.ensures.fault c.in-Err-passed.ensures.edge
