use Rattle.std.proofs.Common.{arith}
use Rattle.match_search.proofs.Instances.{first_in}
use Rattle.match_search.proofs.instance.unions_of.Goals as goal

pub bounds-rows-v : goal.bounds-rows-v
bounds-rows-v c = grind (arith, first_in c.uniting.rest c.in-Some.others c.in-Some.v c.in-Some.ensures.some)

pub bounds-members-v : goal.bounds-members-v
bounds-members-v c = grind (arith, first_in c.uniting.rest c.in-Some.others c.in-Some.v c.in-Some.ensures.some)
