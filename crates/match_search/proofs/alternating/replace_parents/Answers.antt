use Rattle.std.proofs.Common.{arith}
use Rattle.match_search.proofs.Instances.{first_in}
use Rattle.match_search.proofs.alternating.replace_parents.Goals as goal

pub bounds-parent-v : goal.bounds-parent-v
bounds-parent-v c =
    let here = c.requires.within c.in-Some.v (c.replacing.invariant.within c.in-Some.v (first_in c.replacing.rest c.in-Some.others c.in-Some.v c.in-Some.ensures.some)) in
    let long = c.replacing.invariant.long in omega arith
