use Rattle.graph_core.proofs.from_counting.Common.{◌<◌, ◌==◌, ◌&&◌, arith, sym, ap, subst, ◌∙◌, count, mem}
use Rattle.match_search.specs.Common.{IsMateStep, Frame, numbers}
use Rattle.match_search.proofs.AugmentedMates.{fewer_left, held_again, left_is}
use Rattle.match_search.proofs.Instances.{alike_then, left_parts}
use Rattle.match_search.proofs.best.last_frame.Goals as goal

pub augmenting-smaller : goal.augmenting-smaller
augmenting-smaller c =
    let q = c.requires.holds in
    let g = q.0 in
    let m = c.augmenting.invariant.held q.0 q.1 q.2 q.3 in
    let s = subst (IsMateStep g q.1 m.0 c.augment_once.new.mate) c.in-Grown.is (c.in_ok-augment_once.ensures.step g q.1 m.0 m.1) in
    let fewer = fewer_left g m.1.instance_is.graph q.1 m.0 c.augmenting.instance c.augment_once.new.instance c.augmenting.mate c.augment_once.new.mate m.1 c.augment_once.auto.mate s c.args.instance.now.left (left_is g q.1 c.args.instance.now q.3.instance_is) in
    let left = c.args.instance.now.left in
    subst (λ k. count k (λ v. mem left v && (numbers c.augment_once.new.mate v == 0)) < count k (λ v. mem left v && (numbers c.augmenting.mate v == 0))) (sym q.3.instance_is.one_each) fewer

pub augmenting-preserved : goal.augmenting-preserved
augmenting-preserved c = record {
  held = λ g r f held.
      let m = c.augmenting.invariant.held g r f held in
      let s = subst (IsMateStep g r m.0 c.augment_once.new.mate) c.in-Grown.is (c.in_ok-augment_once.ensures.step g r m.0 m.1) in
      (s.m, held_again g m.1.instance_is.graph r m.0 c.augmenting.instance c.augment_once.new.instance c.augmenting.mate c.augment_once.new.mate m.1 c.augment_once.auto.mate s c.in_ok-augment_once.ensures.restored);
  sized =
      let long = c.augmenting.invariant.alike.rows_long in
      let sized = c.in_ok-augment_once.ensures.sized in
      let parents = sized.parents_long in
      record { parents_long = omega arith };
  alike = alike_then c.args.instance.now c.augmenting.instance c.augment_once.new.instance c.augmenting.invariant.alike c.in_ok-augment_once.ensures.restored;
  exposed = λ v l z.
      let q = c.requires.holds in
      let m = c.augmenting.invariant.held q.0 q.1 q.2 q.3 in
      let long = m.1.long in
      let same = c.augment_once.auto.mate in
      let w = (left_parts q.0 q.1 c.augmenting.instance m.1.instance_is v (ap (λ s. mem s v) (sym c.in_ok-augment_once.ensures.restored.left) ∙ l)).0 in
      c.unmated-exposed.ensures v w.0 (omega arith) z;
}

pub returns-in-Final-clause-frame : goal.returns-in-Final-clause-frame
returns-in-Final-clause-frame c = λ g r f held.
    let m = c.augmenting.invariant.held g r f held in
    let s = subst (IsMateStep g r m.0 c.augment_once.new.mate) c.in-Final.is (c.in_ok-augment_once.ensures.step g r m.0 m.1) in
    record {
      m = s.m;
      mates = s.mates;
      frame = subst (λ k. Frame g r k (mem c.in-Final.sets.outer) (mem c.in-Final.sets.inner)) (sym s.answer.0) s.answer.1;
      vertices = s.answer.2;
    }
