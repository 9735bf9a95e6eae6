use Rattle.graph_core.proofs.from_counting.Common.{◌≡◌, ◌≢◌, false, ap, ◌||◌, ◌==◌, ◌∙◌, sym, arith, mem}
use Rattle.match_search.specs.Common.{numbers}
use Rattle.match_search.proofs.FlowerPaths.{last_more}
use Rattle.match_search.proofs.ForestWalks.{Climbs, GoesOn, climbs, goes_on, not_root}
use Rattle.match_search.proofs.flower.last_in.Goals as goal
use Rattle.match_search.proofs.flower.last_in.Goals.{After-index-at, In-climbing}

away : (c : In-climbing) → mem c.args.set c.climbing.at ≡ false
away c = sym c.contains.ensures ∙ c.climbing-test.true

some : (c : In-climbing) → numbers c.args.mate.now c.climbing.at ≢ 0
some c = not_root c.args.mate.now c.args.forest.now c.args.set c.args.y c.climbing.at c.climbing.way c.requires c.climbing.invariant.outer (c.climbing.invariant.last c.requires.h) (away c)

up : (c : In-climbing) → Climbs c.args.mate.now c.args.forest.now c.climbing.at
up c = climbs c.args.mate.now c.args.forest.now c.requires.h c.climbing.at c.climbing.invariant.outer (some c)

pub with-way-requires : goal.with-way-requires
with-way-requires c = (up (goal.at.with-way-requires c).In-climbing).inner

pub index-at-requires : goal.index-at-requires
index-at-requires c = let read = (up (goal.at.index-at-requires c).In-climbing).in_parents in omega arith

on : (c : After-index-at) → GoesOn c.args.mate.now c.args.forest.now c.climbing.at c.index-at.result.now
on c = goes_on c.args.mate.now c.args.forest.now c.requires.h c.climbing.at c.climbing.invariant.outer (some (goal.at.After-index-at c).In-climbing) c.index-at.result.now c.index-at.ensures

pub climbing-smaller : goal.climbing-smaller
climbing-smaller c = (on (goal.at.climbing-smaller c).After-index-at).less

pub climbing-preserved : goal.climbing-preserved
climbing-preserved c =
    let next = on (goal.at.climbing-preserved c).After-index-at in
    let in_loop = (goal.at.climbing-preserved c).In-climbing in
    record {
      outer = next.outer;
      last = λ h. last_more c.args.mate.now c.args.forest.now h c.args.set c.args.y c.climbing.at c.index-at.result.now c.climbing.way c.with-way.result c.climbing.invariant.outer (some in_loop) next.is (away in_loop)
          (λ v. c.with-way.ensures v ∙ ap (λ b. b || numbers c.args.mate.now c.climbing.at == v) (c.with.ensures v)) (c.climbing.invariant.last h);
    }
