use Rattle.std.proofs.Common.{arith}
use Rattle.match_search.proofs.Instances.{first_in}
use Rattle.match_search.proofs.alternating.exposed_in.Goals as goal

pub bounds-mate-v : goal.bounds-mate-v
bounds-mate-v c = c.requires.vertices c.in-Some.v (c.looking.invariant.within c.in-Some.v (first_in c.looking.rest c.in-Some.others c.in-Some.v c.in-Some.ensures.some))

pub returns : goal.returns
returns c = grind arith
