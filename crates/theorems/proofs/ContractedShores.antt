-- All that is outside a tight shore w made one vertex c. A map f carries the vertices over, those of w
-- one to one. A set of the contraction without c has as many vertices as f carries into it, a set
-- inside w has an image, and tight shores go both ways.
-- Used by: LiftedReasons, GateSteps, GatePockets, NearPockets, AllShelters.
use Rattle.tree_check.proofs.from_counting.Common.{◌≡◌, ◌≢◌, ℕ, ◌+◌, Bool, true, false, ◌==◌, ◌&&◌, not, sym, ap, ◌∙◌, arith, subst, inl, inr, eq-eqb, eqb-true, ne_eqb, cases_Bool, and_parts, and_from, both_ways, false_from_ne_true, true_from_ne_false, not-false, same_tests, count_complement, count_congr, count_singleton, least_of, least_of_is, some_true, true_some, refl, Within, count, Set, complement, singleton, some}
use Rattle.barrier_kit.proofs.Common.{tight-turned}
use Rattle.graph_core.proofs.Common.{count_over, covered_down, covered_perfect, cut_congr, tight_down, tight_from_cut, tight_up, Graph, HasEnds, IsCovered, IsGraph, IsTight, Merges, size}
use Rattle.theorems.proofs.MergedSets.{merged_set}

-- h is g with all that is outside w made c; f carries the vertices over
pub record Shrunk (g : Graph) (w : Set) : Type 0 where
  pub h : Graph
  pub f : ℕ → ℕ
  pub c : ℕ
  pub is : IsGraph h
  pub merge : Merges g (complement w) h f c

pub shrink : (g : Graph) (w : Set) (b : ℕ) → IsGraph g → Within g.order b → w b ≡ false → Shrunk g w
shrink g w b is wb o = let m = merged_set g is (complement w) b wb (ap not o) in record { h = m.0; f = m.1; c = m.2; is = m.3; merge = m.4 }

module _ (g : Graph) (is : IsGraph g) (w : Set) (k : Shrunk g w) where
  open k use {h, f, c, is as ish, merge}

  pub f_out : (v : ℕ) → Within g.order v → w v ≡ false → f v ≡ c
  f_out v wv o = merge.inside v wv (ap not o)

  pub f_in : (v : ℕ) → Within g.order v → w v ≡ true → Within h.order (f v) × (f v ≢ c)
  f_in v wv i = merge.outside v wv (ap not i)

  pub in_shore : (v : ℕ) → Within g.order v → f v ≢ c → w v ≡ true
  in_shore v wv n = true_from_ne_false (w v) (λ o. n (f_out v wv o))

  -- no vertex of w is carried into c, so none with a bit that c has not
  pub in_set : (y : Set) (v : ℕ) → Within g.order v → y c ≡ false → y (f v) ≡ true → w v ≡ true
  in_set y v wv yc t = in_shore v wv (λ e. both_ways (y (f v)) (ap y e ∙ yc) t)

  pub f_within : (v : ℕ) → Within g.order v → Within h.order (f v)
  f_within v wv = elim (cases_Bool (w v)) [
    | inl i ↦ (f_in v wv i).0
    | inr o ↦ subst (λ (t : ℕ). Within h.order t) (sym (f_out v wv o)) merge.new
  ]

  -- the vertex of w that becomes t
  unfoldable pub up : ℕ → ℕ
  up t = least_of g.order (λ v. w v && (f v == t))

  pub up_is : (t : ℕ) → Within h.order t → t ≢ c → Within g.order (up t) × (w (up t) ≡ true) × (f (up t) ≡ t)
  unfolding up
  up_is t wt n =
      let r = merge.onto t wt n in
      let l = least_of_is g.order (λ v. w v && (f v == t)) (true_some g.order (λ v. w v && (f v == t)) r.0 r.1 (and_from (w r.0) (f r.0 == t) (not-false (w r.0) r.2) (eq-eqb (f r.0) t r.3))) in
      let q = and_parts (w (up t)) (f (up t) == t) l.1 in (l.0, q.0, eqb-true (f (up t)) t q.1)

  pub up_of : (v : ℕ) → Within g.order v → w v ≡ true → up (f v) ≡ v
  up_of v wv i =
      let n = f_in v wv i in
      let u = up_is (f v) n.0 n.1 in merge.apart (up (f v)) v u.0 wv (ap not u.1) (ap not i) u.2

  -- a set without c has as many vertices in g
  pub count_back : (y : Set) → y c ≡ false → count g.order (λ v. y (f v)) ≡ count h.order y
  count_back y yc = count_over g.order h.order (λ v. y (f v)) y f up
      (λ v wv t. let i = in_set y v wv yc t in ((f_in v wv i).0, t, up_of v wv i))
      (λ t wt i. let u = up_is t wt (λ e. both_ways (y t) (ap y e ∙ yc) i) in (u.0, ap y u.2 ∙ i, u.2))

  pub order_is : h.order ≡ count g.order w + 1
  order_is =
      let a = count_back (complement (singleton c)) (ap not (eq-eqb c c refl)) in
      let b = count_congr g.order (λ v. complement (singleton c) (f v)) w (λ v wv. same v wv (w v) refl) in
      let n = count_complement h.order (singleton c) in
      let o = count_singleton h.order c merge.new in omega arith
    where
      same : (v : ℕ) → Within g.order v → (b : Bool) → w v ≡ b → not (c == f v) ≡ w v
      same v wv true i = ap not (ne_eqb c (f v) (λ e. (f_in v wv i).1 (sym e))) ∙ sym i
      same v wv false i = ap not (eq-eqb c (f v) (sym (f_out v wv i))) ∙ sym i

  -- edges keep their numbers
  pub edge_in : (e : ℕ) → Within (size g) e → Within (size h) e
  edge_in e we = let n = merge.edges in omega arith

  pub ends_over : (e u v : ℕ) → Within (size g) e → HasEnds g e u v → HasEnds h e (f u) (f v)
  ends_over e u v we ends = elim ends [
    | inl q ↦ inl (merge.first_ends e we ∙ ap f q.0, merge.second_ends e we ∙ ap f q.1)
    | inr q ↦ inr (merge.first_ends e we ∙ ap f q.0, merge.second_ends e we ∙ ap f q.1)
  ]

  -- the image of a set inside w
  module _ (z : Set) (zw : (v : ℕ) → Within g.order v → z v ≡ true → w v ≡ true) where
    unfoldable pub image_of : Set
    image_of t = some g.order (λ v. z v && (f v == t))

    reached : (t : ℕ) → image_of t ≡ true → (v : ℕ) × Within g.order v × (z v ≡ true) × (f v ≡ t)
    unfolding image_of
    reached t i =
        let u = some_true g.order (λ v. z v && (f v == t)) i in
        let q = and_parts (z u.0) (f u.0 == t) u.2 in (u.0, u.1, q.0, eqb-true (f u.0) t q.1)

    pub image_new : image_of c ≡ false
    image_new = false_from_ne_true (image_of c) (λ i. let u = reached c i in (f_in u.0 u.1 (zw u.0 u.1 u.2)).1 u.3)

    pub image_at : (v : ℕ) → Within g.order v → image_of (f v) ≡ z v
    unfolding image_of
    image_at v wv = same_tests (image_of (f v)) (z v) there (λ zv. true_some g.order (λ u. z u && (f u == f v)) v wv (and_from (z v) (f v == f v) zv (eq-eqb (f v) (f v) refl)))
      where
        there : image_of (f v) ≡ true → z v ≡ true
        there i =
            let u = reached (f v) i in
            let iu = zw u.0 u.1 u.2 in
            let iv = in_set image_of v wv image_new i in ap z (sym (merge.apart u.0 v u.1 wv (ap not iu) (ap not iv) u.3)) ∙ u.2

  module _ (cov : IsCovered g) (tw : IsTight g w) where
    w_bar : IsTight g (complement w)
    w_bar = tight-turned g w tw

    pub covered_h : IsCovered h
    covered_h = covered_down g is (complement w) h f c merge w_bar cov

    -- tight shores, down and up
    pub shore_down : (y z : Set) → ((v : ℕ) → Within g.order v → y (f v) ≡ z v) → IsTight g z → IsTight h y
    shore_down y z same tz =
        let m = covered_perfect h ish covered_h in
        tight_from_cut h y m.0 ish m.1 (tight_down g is (complement w) h f c merge w_bar cov y (cut_congr g z (λ v. y (f v)) is (λ v wv. sym (same v wv)) tz.cut))

    pub shore_up : (y : Set) → IsTight h y → IsTight g (λ v. y (f v))
    shore_up y ty =
        let m = covered_perfect g is cov in
        let t = w_bar in tight_from_cut g (λ v. y (f v)) m.0 is m.1 (tight_up g is (complement w) h f c merge t.cut y ty.cut)
