-- The outer vertices of a frame are those in odd components of G - R without the inner ones. Odd
-- components ranked by least vertex are a labelling; an even component put outside the classes
-- leaves them odd.
use Rattle.graph_core.proofs.from_counting.Common.{◌≡◌, ℕ, ◌+◌, ◌*◌, Bool, true, false, cond, ◌==◌, refl, sym, ap, ap₂, ◌∙◌, arith, ◌&&◌, not, inl, inr, nat_lt, [], ◌∷◌, le-ltb, rules, cases_Bool, both_ways, false_from_ne_true, and_parts, or_parts, bit_true, count_congr, odd-add, some_term, total_add, total_congr, total_none, total_tight, bit_times_le, Within, bit, count, is_odd, total, Set, union}
use Rattle.graph_core.proofs.Common.{joined_outside, joined_walk, some_leader, walk_joined, adjacent_from, has_ends-back, has_ends-own, joined_back, joined_on, joined_self, is_least, odd_component_count, Graph, IsGraph, first_end, second_end, size, IsMatching, Joined, joined}
use Rattle.match_search.proofs.Certificates.{certificate_tight}
use Rattle.match_core.proofs.OddComponents.{certificate_components, classes_leaders, outer_free, same_class}
use Rattle.match_search.specs.Common.{Frame, IsOddLabelling}

module _ (g : Graph) (is : IsGraph g) (x : Set) where
  abbrev pub is_odd_least : Set
  is_odd_least u = is_least g x u && is_odd (count g.order (joined g x u))

  leader : (v : ℕ) → Within g.order v → x v ≡ false → (u : ℕ) × Within g.order u × (is_least g x u ≡ true) × (joined g x u v ≡ true)
  leader v w o = grind (arith, some_term g.order, some_leader g x is v w o, and_parts, bit_true)

  joined_along : (u e : ℕ) → Within g.order u → Within (size g) e → x (first_end g e) ≡ false → x (second_end g e) ≡ false → joined g x u (first_end g e) ≡ true → joined g x u (second_end g e) ≡ true
  unfolding Joined
  joined_along u e wu we xn xf j = walk_joined g x is u (second_end g e) wu (joined_on g x u (first_end g e) (second_end g e) (joined_walk g x u (first_end g e) j) (second_end g e ∷ [], (adjacent_from g x (first_end g e) (second_end g e) e xn xf we (has_ends-own g e), refl)))

-- labels with the component of v put outside the classes, where it is even
module _ (g : Graph) (is : IsGraph g) (x : Set) (label : ℕ → ℕ) (p : ℕ) (labels : IsOddLabelling g x label p) (v : ℕ) (wv : Within g.order v) (xv : x v ≡ false) (even : is_odd (count g.order (joined g x v)) ≡ false) where
  abbrev pub without_component : ℕ → ℕ
  without_component w = cond (joined g x v w) 0 (label w)

  pub without_labels : IsOddLabelling g x without_component p
  unfolding Joined
  without_labels = record {
    low = λ w ww. grind arith;
    away = λ w ww t. ap (λ b. cond b 0 (label w)) (false_from_ne_true (joined g x v w) (λ s. both_ways (x w) (joined_outside g x is v w xv s) t)) ∙ labels.away w ww t;
    along = λ e w a b. ap₂ (λ s t. cond s 0 t) (both e w a b) (labels.along e w a b);
    odd = λ j w. odd_at j w;
  }
    where
      both : (e : ℕ) → Within (size g) e → x (first_end g e) ≡ false → x (second_end g e) ≡ false → joined g x v (first_end g e) ≡ joined g x v (second_end g e)
      both e w a b = go (joined g x v (first_end g e)) (joined g x v (second_end g e)) refl refl
        where
          back : joined g x v (second_end g e) ≡ true → joined g x v (first_end g e) ≡ true
          back j = walk_joined g x is v (first_end g e) wv (joined_on g x v (second_end g e) (first_end g e) (joined_walk g x v (second_end g e) j) (first_end g e ∷ [], (adjacent_from g x (second_end g e) (first_end g e) e b a w (has_ends-back g (first_end g e) (second_end g e) e (has_ends-own g e)), refl)))

          go : (s t : Bool) → joined g x v (first_end g e) ≡ s → joined g x v (second_end g e) ≡ t → joined g x v (first_end g e) ≡ joined g x v (second_end g e)
          go true t q r = q ∙ sym (joined_along g is x v e wv w a b q)
          go false true q r = back r ∙ sym r
          go false false q r = q ∙ sym r

      odd_at : (j : ℕ) → Within p j → is_odd (count g.order (λ w. without_component w == j)) ≡ true
      odd_at j wj = go (label v == j) refl
        where
          each : (s : Bool) (w : ℕ) → (joined g x v w ≡ true → (label w == j) ≡ s) → bit (without_component w == j) + bit (joined g x v w) * bit s ≡ bit (label w == j)
          each s w h = grind arith

          sums : (s : Bool) → (label v == j) ≡ s → count g.order (λ w. without_component w == j) + total g.order (λ w. bit (joined g x v w) * bit s) ≡ count g.order (λ w. label w == j)
          sums s q = sym (total_add g.order (λ w. bit (without_component w == j)) (λ w. bit (joined g x v w) * bit s)) ∙ total_congr g.order _ _ (λ w ww. each s w (λ t. ap (λ k. k == j) (sym (same_class g is x label p labels v w t)) ∙ q))

          go : (s : Bool) → (label v == j) ≡ s → is_odd (count g.order (λ w. without_component w == j)) ≡ true
          go false q = grind (arith, sums false q, total_none g.order)
          go true q = search (rules, sums true q, total_congr g.order, parity, odd-add)
            where
              parity : (s t : Bool) → t ≡ false → cond s (not t) t ≡ true → s ≡ true
              parity s t p q = grind arith

-- the outer vertices of a frame are those in odd components of g - r less the inner ones
module _ (g : Graph) (is : IsGraph g) (r : Set) (k : ℕ) (outer inner : Set) (frame : Frame g r k outer inner) (m : Set) (mm : IsMatching g r m) (full : count (size g) m ≡ k) where
  pub outer_odd : (v : ℕ) → Within g.order v → outer v ≡ true → is_odd (count g.order (joined g (union r inner) v)) ≡ true
  outer_odd v w t = elim (cases_Bool (is_odd (count g.order (joined g (union r inner) v)))) [
    | inl o ↦ o
    | inr e ↦
        let free = outer_free g is r k outer inner frame m mm full v w t in
        let labels = without_labels g is (union r inner) frame.label frame.classes frame.certificate.labels v w free e in
        let n = frame.missable v w t in
        let tight = certificate_tight g is r inner (without_component g is (union r inner) frame.label frame.classes frame.certificate.labels v w free e) frame.classes labels n.0 n.1 k frame.certificate.sizes n.2 v w (or_parts (r v) (inner v) free).0 n.3 in
        let own = walk_joined g (union r inner) is v v w (joined_self g (union r inner) v) in
        absurd (both_ways (nat_lt 0 (cond (joined g (union r inner) v v) 0 (frame.label v))) (ap (λ b. nat_lt 0 (cond b 0 (frame.label v))) own ∙ le-ltb 0 0 (omega arith)) tight.0)
  ]

  pub odd_outer : (v : ℕ) → Within g.order v → r v ≡ false → inner v ≡ false → is_odd (count g.order (joined g (union r inner) v)) ≡ true → outer v ≡ true
  unfolding odd_component_count
  odd_outer v w rv iv odd =
      let free = Rattle.std.proofs.lemmas.Bool.or_from (r v) (inner v) rv iv in
      let u = leader g is (union r inner) v w free in
      let a = classes_leaders g is (union r inner) frame.label frame.classes frame.certificate.labels in
      let b = (certificate_components g r inner k frame.label frame.classes is frame.certificate m mm full).0 in
      let same = sym (total_tight g.order (λ y. bit (is_odd_least g is (union r inner) y)) (λ y. bit (nat_lt 0 (frame.label y)) * bit (is_odd_least g is (union r inner) y)) (λ y wy. bit_times_le (nat_lt 0 (frame.label y)) (bit (is_odd_least g is (union r inner) y))) (omega arith) u.0 u.1) in
      let sizes : count g.order (joined g (union r inner) u.0) ≡ count g.order (joined g (union r inner) v) = count_congr g.order _ _ (λ y wy. grind (arith, both_ways, walk_joined, joined_on, joined_back, joined_walk)) in
      frame.labelled v w ∙ ap (nat_lt 0) (sym (same_class g is (union r inner) frame.label frame.classes frame.certificate.labels u.0 v u.3)) ∙ (grind arith)
