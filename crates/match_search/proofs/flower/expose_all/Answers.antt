use Rattle.std.proofs.Common.{arith}
use Rattle.match_search.proofs.Instances.{first_in}
use Rattle.match_search.proofs.flower.expose_all.Goals as goal

pub bounds-mate-v : goal.bounds-mate-v
bounds-mate-v c = grind (arith, first_in c.exposing.rest c.in-Some.others c.in-Some.v c.in-Some.ensures.some)

pub returns : goal.returns
returns c = grind arith
