-- The active vertices of a forest that grows: what a step makes of them, and where none is left.
-- Idea: a settled vertex beside an active one is outer, so the active one is not done as long as it
-- is so.
use Rattle.graph_core.proofs.from_counting.Common.{◌≡◌, ◌≢◌, ℕ, Bool, true, false, ◌==◌, sym, ap, ◌∙◌, arith, not, ◌&&◌, ◌||◌, ne_eqb, inl, inr, subst, List, [], and_from, both_ways, cases_eq, or_cases, or_left, or_right, Set, mem}
use Rattle.graph_core.proofs.Common.{Graph}
use Rattle.match_search.specs.Common.{AreNear, GrowsForest, HasBranched, IsDone, Touches, numbers}
use Rattle.match_search.specs.declared.instance.Instance.{Instance}
use Rattle.match_search.specs.declared.alternating.AlternatingForest.{AlternatingForest}
use Rattle.match_search.proofs.Branching.{holds_branched}
use Rattle.match_search.proofs.Forests.{turned}
use Rattle.match_search.proofs.Instances.{near_edge}
use Rattle.match_search.proofs.ParentForests.{active_holds}
use Rattle.match_search.proofs.Reaching.{none_reached}

-- where no vertex is active, each outer one is done
pub all_done : (g : Graph) (r f : Set) (s : Instance) (mate : List ℕ) (t : AlternatingForest) → GrowsForest g r f s mate t → t.active ≡ [] → (x : ℕ) → mem t.outer x ≡ true → IsDone s t x
all_done g r f s mate t grows none x o y touches left other = grind (arith, mem, both_ways)

module _ (g : Graph) (r f : Set) (s : Instance) (mate : List ℕ) (t : AlternatingForest) (grows : GrowsForest g r f s mate t) (x : ℕ) (active : mem t.active x ≡ true) (met near reach : List ℕ)
    (met_is : AreNear s x met) (near_is : (v : ℕ) → mem near v ≡ (mem met v && not (x == v))) (reach_is : (v : ℕ) → mem reach v ≡ (mem near v && not (mem t.inner v))) where
  ox : mem t.outer x ≡ true
  ox = grows.active_outer x active

  -- x touches an outer vertex that touches it
  touched_back : (v : ℕ) → mem t.outer v ≡ true → v ≢ x → Touches s v x → mem s.left x ≡ true → Touches s x v
  touched_back v ov n touches left =
      let is = grows.matching.instance_is in
      let wv = grows.holds.forest.outer_in v ov in
      let wx = grows.holds.forest.outer_in x ox in
      let d = near_edge g r s is v x wv.0 wv.1 touches left n in
      is.touched d.0 x v d.1 (turned g d.0 v x d.2) wx.0 wv.0 wx.1 wv.1 (λ q. n (sym q))

  -- where x reaches no vertex, it is active no more
  pub closed_grows : reach ≡ [] → (after : List ℕ) → ((v : ℕ) → mem after v ≡ (mem t.active v && not (x == v))) → GrowsForest g r f s mate (record t { active = after })
  closed_grows none after after_is = record {
    matching = grows.matching;
    holds = active_holds g r f s mate grows.matching t grows.holds after;
    active_outer = λ v a. grows.active_outer v (first (mem t.active v) (x == v) (sym (after_is v) ∙ a));
    settled = λ v o n y touches left other. elim (cases_eq x v) [
      | inl q ↦ inl (done y (subst (λ (u : ℕ). Touches s u y) (sym q) touches) left (λ e. other (sym q ∙ e)))
      | inr q ↦ elim (grows.settled v o (shut (mem t.active v) (x == v) (ne_eqb x v q) (sym (after_is v) ∙ n)) y touches left other) [
        | inl i ↦ inl i
        | inr a ↦ elim (cases_eq x y) [
          | inr e ↦ inr (after_is y ∙ and_from (mem t.active y) (not (x == y)) a (ap not (ne_eqb x y e)))
          | inl e ↦
              let back = touched_back v o (λ w. q (sym w)) (subst (λ (u : ℕ). Touches s v u) (sym e) touches) (ap (mem s.left) e ∙ left) in
              let wv = grows.holds.forest.outer_in v o in
              absurd (both_ways (mem t.inner v) (grows.holds.forest.apart v o) (done v back (Rattle.match_search.proofs.Instances.left_from g r s grows.matching.instance_is v wv.0 wv.1) q))
        ]
      ]
    ];
  }
    where
      done : IsDone s t x
      done = none_reached s t x met near reach met_is near_is reach_is none

      first : (a b : Bool) → (a && not b) ≡ true → a ≡ true
      first a b q = grind arith

      shut : (a b : Bool) → b ≡ false → (a && not b) ≡ false → a ≡ false
      shut a b p q = grind arith

  -- x reaches a vertex outside the forest
  pub branch_grows : (y : ℕ) (both : List ℕ) → ((v : ℕ) → mem both v ≡ (mem reach v && mem t.outer v)) → both ≡ [] → mem reach y ≡ true → (h : AlternatingForest) → HasBranched t h x y (numbers mate y) → GrowsForest g r f s mate h
  branch_grows y both both_is apart reached h grew = record {
    matching = grows.matching;
    holds = holds_branched s mate t x y met near reach both ox met_is near_is reach_is both_is apart reached g r f grows.matching grows.holds h grew;
    active_outer = λ v a. elim (or_cases (mem t.active v) (numbers mate y == v) (sym (grew.active v) ∙ a)) [
      | inl q ↦ grew.outer v ∙ or_left (mem t.outer v) (numbers mate y == v) (grows.active_outer v q)
      | inr q ↦ grew.outer v ∙ or_right (mem t.outer v) (numbers mate y == v) q
    ];
    settled = λ v o n u touches left other.
        let shut = neither (mem t.active v) (numbers mate y == v) (sym (grew.active v) ∙ n) in
        let old : mem t.outer v ≡ true = elim (or_cases (mem t.outer v) (numbers mate y == v) (sym (grew.outer v) ∙ o)) [ inl q ↦ q | inr q ↦ absurd (both_ways (numbers mate y == v) shut.1 q) ] in
        elim (grows.settled v old shut.0 u touches left other) [
          | inl q ↦ inl (grew.inner u ∙ or_left (mem t.inner u) (y == u) q)
          | inr q ↦ inr (grew.active u ∙ or_left (mem t.active u) (numbers mate y == u) q)
        ];
  }
    where
      neither : (a b : Bool) → (a || b) ≡ false → (a ≡ false) × (b ≡ false)
      neither a b q = grind arith
