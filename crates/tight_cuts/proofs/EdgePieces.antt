-- What the pairs with one first vertex x give, by one set: the intersection of all tight sets
-- that have x and an end of the edge, not the other. Idea: that intersection is one of these
-- sets, so a pair (x, y) is separated exactly when it lacks y, and then it is the common shore.
use Rattle.graph_core.proofs.from_counting.Common.{◌≡◌, ◌≢◌, ℕ, ◌+◌, true, false, not, ◌==◌, refl, sym, ap, ◌∙◌, arith, inl, inr, List, Option, Some, None, eq-eqb, eqb-true, same_tests, cases_lt, both_ways, false_from_ne_true, cases_Bool, or_cases, or_left, or_right, complement, Within, mem, Set, pair_set}
use Rattle.barrier_kit.proofs.Common.{tight-turned}
use Rattle.graph_core.proofs.Common.{IsCovered, Graph, IsGraph, size, IsWithinLimits}
use Rattle.tight_cuts.proofs.EdgeLoop.{ends_between, first_pair, no_pair}
use Rattle.tight_cuts.proofs.EdgeShores.{allowed, greater_within, lesser_within}
use Rattle.tight_cuts.proofs.FirstPairs.{before_first, no_first}
use Rattle.tight_cuts.proofs.LeastShores.{common_from, common_in, common_parts, separated_found, separated_says}
use Rattle.tight_cuts.specs.Common.{common_shore, first_separated, greater_end, is_separated, lesser_end, AreWhole, IsCommonShore, IsShoreOfEdge, NoneBefore, SeparatesTightly}

-- a set that separates x from y separates x from b alone
narrower : (g : Graph) (a b x y : ℕ) (z : Set) → SeparatesTightly g a b (x, y) z → SeparatesTightly g a b (x, b) z
narrower g a b x y z p = record { tight = p.tight; has_a = p.has_a; has_x = p.has_x; lacks_b = p.lacks_b; lacks_y = p.lacks_b }

-- and one that has x and not b separates x from each vertex that it lacks
wider : (g : Graph) (a b x y : ℕ) (z : Set) → SeparatesTightly g a b (x, b) z → z y ≡ false → SeparatesTightly g a b (x, y) z
wider g a b x y z p l = record { tight = p.tight; has_a = p.has_a; has_x = p.has_x; lacks_b = p.lacks_b; lacks_y = l }

module _ (g : Graph) (lim : IsWithinLimits g) (cov : IsCovered g) (e : ℕ) (we : Within (size g) e) (x : ℕ) (wx : Within g.order x) where
  is : IsGraph g
  is = lim.multigraph.ends

  abbrev a : ℕ
  a = lesser_end g e

  abbrev b : ℕ
  b = greater_end g e

  wa : Within g.order a
  wa = lesser_within g lim cov e we

  wb : Within g.order b
  wb = greater_within g lim cov e we

  abbrev shore : Set
  shore = common_shore g a b (x, b)

  shore_parts : (z : Set) → SeparatesTightly g a b (x, b) z → SeparatesTightly g a b (x, b) shore
  shore_parts = common_parts g is a b (x, b) wa wb wx wb cov e we (ends_between g e) (allowed g lim cov e we)

  -- the shore lies in each set that has x
  shore_in : (z : Set) → SeparatesTightly g a b (x, b) z → (v : ℕ) → Within g.order v → shore v ≡ true → z v ≡ true
  shore_in z p v w t = common_in g is a b (x, b) wa wb wx wb v w t z p

  -- it lacks the second vertex of each separated pair
  shore_lacks : (y : ℕ) → Within g.order y → is_separated g a b (x, y) ≡ true → shore y ≡ false
  shore_lacks y wy t = grind arith

  -- if it lacks y it is the common shore of x and y
  shore_common : (y : ℕ) → Within g.order y → SeparatesTightly g a b (x, b) shore → shore y ≡ false → (v : ℕ) → Within g.order v → shore v ≡ common_shore g a b (x, y) v
  shore_common y wy p l v w = grind (arith, same_tests, common_from, is, wa, wb, shore_in, narrower, common_in, wider)

  -- it separates x from each vertex that it lacks, but b
  shore_separated : (y : ℕ) → Within g.order y → SeparatesTightly g a b (x, b) shore → pair_set a b x ≡ false → y ≢ b → shore y ≡ false → is_separated g a b (x, y) ≡ true
  shore_separated y wy p ox yb l = grind arith

  -- the first pair has x for its first vertex, if no earlier vertex has a pair and x has one
  first_at : (y : ℕ) → Within g.order y → NoneBefore g e x 1 → is_separated g a b (x, y) ≡ true → (d : ℕ) × Within g.order d × (first_separated g e ≡ Some (x, d)) × (is_separated g a b (x, d) ≡ true)
  first_at y wy h t = go (first_separated g e) refl
    where
      go : (o : Option (ℕ × ℕ)) → first_separated g e ≡ o → (d : ℕ) × Within g.order d × (first_separated g e ≡ Some (x, d)) × (is_separated g a b (x, d) ≡ true)
      go None q = absurd (both_ways (is_separated g a b (x, y)) (no_pair g.order (is_separated g a b) q x y wx wy) t)
      go (Some k) q =
          let f = first_pair g.order (is_separated g a b) k q in
          elim (cases_lt k.0 x) [
            | inl s ↦ absurd (both_ways (is_separated g a b k) (h k.0 k.1 f.1 f.2 (inl s)) f.0)
            | inr s ↦ elim (cases_lt x k.0) [
              | inl u ↦ absurd (both_ways (is_separated g a b (x, y)) (before_first g.order (is_separated g a b) k q x y wx wy (inl u)) t)
              | inr u ↦ let same : k.0 ≡ x = omega arith in (k.1, f.2, q ∙ ap (λ i. Some (i, k.1)) same, ap (λ i. is_separated g a b (i, k.1)) (sym same) ∙ f.0)
            ]
          ]

  -- if no pair with x is separated, each tight set with a and x and without b is everything but b
  pub whole_before : pair_set a b x ≡ false → NoneBefore g e (x + 1) 1 → AreWhole g a b x
  whole_before ox before z p v w d = elim (cases_Bool (z v)) [
    | inl t ↦ t
    | inr f ↦ absurd (both_ways (is_separated g a b (x, v)) (before x v wx w (inl (omega arith)))
        (separated_found g a b (x, v) z is wa wb wx w ox (false_from_ne_true (pair_set a b v) (λ t. elim (or_cases (a == v) (b == v) t) [
          | inl q ↦ both_ways (z v) f (ap z (sym (eqb-true a v q)) ∙ p.has_a)
          | inr q ↦ d (sym (eqb-true b v q))
        ])) (wider g a b x v z p f)))
  ]

  module _ (answer : Option (List ℕ)) (common : IsCommonShore g a b (x, b) answer) where
    -- a shore that lacks a vertex other than b is what the edge gives
    pub piece_found : pair_set a b x ≡ false → NoneBefore g e x 1 → (s : List ℕ) → answer ≡ Some s → (y : ℕ) → Within g.order y → y ≢ b → mem s y ≡ false → IsShoreOfEdge g e (Some s)
    piece_found ox h s q y wy yb l = grind (arith, shore_parts, shore_separated y wy, first_at y wy h, shore_common, shore_lacks)

    -- without such a shore no pair with x is separated
    pub piece_none : answer ≡ None → (y : ℕ) → is_separated g a b (x, y) ≡ false
    piece_none q y = false_from_ne_true (is_separated g a b (x, y)) (λ t. let p = separated_says g a b (x, y) t in common.none q p.2.0 (narrower g a b x y p.2.0 p.2.1))

    pub piece_full : (s : List ℕ) → answer ≡ Some s → ((y : ℕ) → Within g.order y → y ≢ b → mem s y ≡ true) → (y : ℕ) → Within g.order y → is_separated g a b (x, y) ≡ false
    piece_full s q full y wy = grind (arith, false_from_ne_true (is_separated g a b (x, y)), separated_says g a b (x, y), both_ways (shore y), shore_lacks y wy, both_ways (pair_set a b y), end_in)
      where
        end_in : pair_set a b b ≡ true
        end_in = or_right (a == b) (b == b) (eq-eqb b b refl)

-- a common shore that is everything but b, or none, says so of each such set
pub whole_shore : (g : Graph) → IsGraph g → (a b x : ℕ) → Within g.order a → Within g.order b → Within g.order x → (answer : Option (List ℕ)) → IsCommonShore g a b (x, b) answer → ((s : List ℕ) → answer ≡ Some s → (y : ℕ) → Within g.order y → y ≢ b → mem s y ≡ true) → AreWhole g a b x
whole_shore g isg a b x va vb vx answer common full z p v w d = grind (arith, common_in g isg a b (x, b) va vb vx vb v w)

-- if the sets on either side of x are so, no pair is separated
pub inseparable : (g : Graph) (e x : ℕ) → AreWhole g (lesser_end g e) (greater_end g e) x → AreWhole g (greater_end g e) (lesser_end g e) x → first_separated g e ≡ None
inseparable g e x near far = no_first g.order (is_separated g (lesser_end g e) (greater_end g e)) (λ u w wu ww. false_from_ne_true (is_separated g (lesser_end g e) (greater_end g e) (u, w)) (λ t.
    let p = separated_says g (lesser_end g e) (greater_end g e) (u, w) t in
    let z = p.2.0 in
    let s = p.2.1 in
    elim (cases_Bool (z x)) [
      | inl h ↦ both_ways (z w) s.lacks_y (near z (record { tight = s.tight; has_a = s.has_a; has_x = h; lacks_b = s.lacks_b; lacks_y = s.lacks_b }) w ww
          (λ q. both_ways (pair_set (lesser_end g e) (greater_end g e) w) p.1 (or_right (lesser_end g e == w) (greater_end g e == w) (eq-eqb (greater_end g e) w (sym q)))))
      | inr h ↦ both_ways (not (z u)) (ap not s.has_x) (far (complement z) (record { tight = tight-turned g z s.tight; has_a = ap not s.lacks_b; has_x = ap not h; lacks_b = ap not s.has_a; lacks_y = ap not s.has_a }) u wu
          (λ q. both_ways (pair_set (lesser_end g e) (greater_end g e) u) p.0 (or_left (lesser_end g e == u) (greater_end g e == u) (eq-eqb (lesser_end g e) u (sym q)))))
    ]))

-- all pairs with x are done
pub first_done : (g : Graph) (e x : ℕ) → NoneBefore g e x 1 → ((y : ℕ) → Within g.order y → is_separated g (lesser_end g e) (greater_end g e) (x, y) ≡ false) → NoneBefore g e (x + 1) 1
first_done g e x h n c d wc wd before = grind arith
