use Rattle.match_search.proofs.Instances.{first_in}
use Rattle.match_core.proofs.partner_table.misses_none.Goals as goal

pub bounds-mate-v : goal.bounds-mate-v
bounds-mate-v c = c.requires c.in-Some.v (c.looking.invariant.within c.in-Some.v (first_in c.looking.rest c.in-Some.others c.in-Some.v c.in-Some.ensures.some))
