use Rattle.std.proofs.Common.{◌+◌, ap, ◌∙◌, sym, arith}
use Rattle.match_search.proofs.FlowerPaths.{outer_more, up_at, up_over}
use Rattle.match_search.proofs.ForestWalks.{GoesOn, climbs, goes_on, has_pairs, root_pairs}
use Rattle.match_search.proofs.flower.outer_of_path.Goals as goal
use Rattle.match_search.proofs.flower.outer_of_path.Goals.{After-index-at}

pub index-at-requires : goal.index-at-requires
index-at-requires c = let up = climbs c.args.mate.now c.args.forest.now c.requires.forest c.climbing.at c.climbing.invariant.outer c.climbing-test.true in let read = up.in_parents in omega arith

on : (c : After-index-at) → GoesOn c.args.mate.now c.args.forest.now c.climbing.at c.index-at.result.now
on c = goes_on c.args.mate.now c.args.forest.now c.requires.forest c.climbing.at c.climbing.invariant.outer c.climbing-test.true c.index-at.result.now c.index-at.ensures

pub with-path-requires : goal.with-path-requires
with-path-requires c = (on (goal.at.with-path-requires c).After-index-at).within

pub climbing-smaller : goal.climbing-smaller
climbing-smaller c = (on (goal.at.climbing-smaller c).After-index-at).less

pub climbing-preserved : goal.climbing-preserved
climbing-preserved c =
    let next = on (goal.at.climbing-preserved c).After-index-at in
    record {
      outer = next.outer;
      pairs = λ h.
          let less = next.pairs h in
          let fits = c.climbing.invariant.pairs h in omega arith;
      over = λ h j l.
          let some = has_pairs c.args.mate.now c.args.forest.now h c.climbing.at c.climbing.invariant.outer c.climbing-test.true in
          ap (λ v. h.holds.v v j) next.is ∙ up_over h.g h.r h.f c.args.mate.now c.args.forest.now h.holds c.args.x c.climbing.at c.climbing.invariant.outer some (c.climbing.invariant.over h) j (let same = ap h.holds.k next.is in omega arith);
      path = λ h.
          let some = has_pairs c.args.mate.now c.args.forest.now h c.climbing.at c.climbing.invariant.outer c.climbing-test.true in
          outer_more (h.holds.v c.args.x) (h.holds.k c.climbing.at) (h.holds.k c.index-at.result.now) (h.holds.k c.args.x) c.index-at.result.now c.climbing.path c.with-path.result
          (next.pairs h) (c.climbing.invariant.pairs h)
          (ap (λ u. h.holds.v c.args.x (h.holds.k u + h.holds.k u)) next.is ∙ up_at h.g h.r h.f c.args.mate.now c.args.forest.now h.holds c.args.x c.climbing.at c.climbing.invariant.outer some (c.climbing.invariant.over h) ∙ sym next.is) c.with-path.ensures (c.climbing.invariant.path h);
    }

pub returns : goal.returns
returns c = λ h v.
    let none = root_pairs c.args.mate.now c.args.forest.now h c.climbing.at c.climbing.invariant.outer c.climbing-test.false in
    let path = c.climbing.invariant.path h v in
    (λ m. let w = path.0 m in (w.0, w.2, w.3), λ w. path.1 (w.0, omega arith, w.1, w.2))
