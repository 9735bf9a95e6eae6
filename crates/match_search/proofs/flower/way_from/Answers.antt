use Rattle.graph_core.proofs.from_counting.Common.{ap, ◌||◌, ◌==◌, ◌∙◌, sym, subst, arith, ne_eqb, ℕ, [], ◌∷◌, or_false}
use Rattle.match_search.specs.Common.{IsLastIn, numbers}
use Rattle.match_search.proofs.FlowerPaths.{last_more}
use Rattle.match_search.proofs.ForestWalks.{climbs, goes_on}
use Rattle.match_search.proofs.flower.way_from.Goals as goal

pub with-way-requires : goal.with-way-requires
with-way-requires c = (climbs c.args.mate.now c.args.forest.now c.requires.forest c.climbing.at c.climbing.invariant.outer c.if-inner-eq0.false).inner

pub index-at-requires : goal.index-at-requires
index-at-requires c = let read = (climbs c.args.mate.now c.args.forest.now c.requires.forest c.climbing.at c.climbing.invariant.outer c.if-inner-eq0.false).in_parents in omega arith

pub climbing-smaller : goal.climbing-smaller
climbing-smaller c = (goes_on c.args.mate.now c.args.forest.now c.requires.forest c.climbing.at c.climbing.invariant.outer c.if-inner-eq0.false c.index-at.result.now c.index-at.ensures).less

pub climbing-preserved : goal.climbing-preserved
climbing-preserved c =
    let mate = c.if-inner-eq0.false in
    let next = goes_on c.args.mate.now c.args.forest.now c.requires.forest c.climbing.at c.climbing.invariant.outer mate c.index-at.result.now c.index-at.ensures in
    let away = or_false (c.args.base == c.climbing.at) ∙ ne_eqb c.args.base c.climbing.at (λ q. c.climbing-test.true (sym q)) in
    record {
      outer = next.outer;
      last = λ h. last_more c.args.mate.now c.args.forest.now h (c.args.base ∷ []) c.args.y c.climbing.at c.index-at.result.now c.climbing.way c.with-way.result c.climbing.invariant.outer mate next.is away
          (λ v. c.with-way.ensures v ∙ ap (λ b. b || numbers c.args.mate.now c.climbing.at == v) (c.with.ensures v)) (c.climbing.invariant.last h);
    }

pub returns : goal.returns
returns c = λ h. subst (λ (u : ℕ). IsLastIn h.holds.k h.holds.v (c.args.base ∷ []) c.args.y u c.climbing.way) c.climbing-test.false (c.climbing.invariant.last h)
