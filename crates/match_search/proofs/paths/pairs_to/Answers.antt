use Rattle.std.proofs.Common.{arith}
use Rattle.match_search.proofs.ForestWalks.{GoesOn, climbs, goes_on, root_pairs}
use Rattle.match_search.proofs.Reaching.{pairs_few}
use Rattle.match_search.proofs.paths.pairs_to.Goals as goal
use Rattle.match_search.proofs.paths.pairs_to.Goals.{After-index-at}

pub index-at-requires : goal.index-at-requires
index-at-requires c = let up = climbs c.args.mate.now c.args.forest.now c.requires.forest c.climbing.at c.climbing.invariant.outer c.climbing-test.true in let read = up.in_parents in omega arith

on : (c : After-index-at) → GoesOn c.args.mate.now c.args.forest.now c.climbing.at c.index-at.result.now
on c = goes_on c.args.mate.now c.args.forest.now c.requires.forest c.climbing.at c.climbing.invariant.outer c.climbing-test.true c.index-at.result.now c.index-at.ensures

pub overflow_add-pairs : goal.overflow_add-pairs
overflow_add-pairs c =
    let q = c.requires.forest in
    let counted = c.climbing.invariant.counted q in
    let few = pairs_few q.g q.r q.f c.args.mate.now c.args.forest.now q.holds c.args.x c.requires.outer in
    let order = q.few in omega arith

pub climbing-smaller : goal.climbing-smaller
climbing-smaller c = (on (goal.at.climbing-smaller c).After-index-at).less

pub climbing-preserved : goal.climbing-preserved
climbing-preserved c =
    let next = on (goal.at.climbing-preserved c).After-index-at in
    record { outer = next.outer; counted = λ h. let less = next.pairs h in let counted = c.climbing.invariant.counted h in omega arith }

pub returns : goal.returns
returns c = grind (arith, root_pairs)
