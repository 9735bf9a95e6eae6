-- If deleting two vertices of each side of a bipartite covered graph leaves no perfect matching,
-- there is a nontrivial tight cut. Hall's condition fails for some vertices, and these with their
-- neighbours are the shore.
use Rattle.graph_core.proofs.from_counting.Common.{◌≡◌, ℕ, ◌+◌, ◌*◌, ◌≤◌, ◌<◌, ◌≢◌, Bool, true, false, ◌==◌, refl, sym, ap, ap₂, ◌∙◌, arith, ◌&&◌, ◌||◌, not, eq-eqb, ne_eqb, eqb-true, nat_lt, ltb-true, ltb-false, ◌⊎◌, inl, inr, cases_Bool, both_ways, and_parts, and_from, or_cases, Respects, choose_set, count_congr, count_minus, count_member, two_members, odd_three, count_singleton, some_true, true_some, some_congr, total_congr, total_add, total_le, total_at, not_not, same_tests, bit, count, Within, Set, none, union, minus, meet, complement, singleton, some}
use Rattle.matching_digraph.proofs.from_barrier_kit.Common.{glue_family, hall, hits, cut_split, cut_matching, loop_free, perfect_congr, neighbours, Picks}
use Rattle.graph_core.proofs.Common.{IsSide, IsCovered, Graph, size, first_end, second_end, IsGraph, degree, has_ends, edges_in_cut, IsPerfect, IsTight, IsNontrivial, tight_from_cut, covered_perfect, ends_of, degree_sum, ends_of_is, has_ends-cases, has_ends-own, has_ends-back}
use Rattle.matching_digraph.proofs.Balance.{equal_sides, other_side, side_count}
use Rattle.quick_kinds.specs.Braces.{four_set}

-- a perfect matching of two vertices that an edge joins
pub one_edge : (g : Graph) (e x y : ℕ) → Within (size g) e → has_ends g x y e ≡ true → x ≢ y → IsPerfect g (complement (union (singleton x) (singleton y))) (singleton e)
one_edge g e x y w h d = record {
  once = λ v wv o. at v ∙ (grind arith);
  away = λ v wv o. at v ∙ zero_ends (x == v) (y == v) o;
}
  where
    zero_ends : (a b : Bool) → not (a || b) ≡ true → bit a + bit b ≡ 0
    zero_ends a b h = grind arith

    at : (v : ℕ) → degree g (singleton e) v ≡ bit (x == v) + bit (y == v)
    at v = degree_sum g (singleton e) v
        ∙ total_at (size g) (λ i. bit (singleton e i) * ends_of g i v) e w (λ i u q. let a = ap bit (ne_eqb e i (λ t. q (sym t))) in let b : bit (singleton e i) * ends_of g i v ≡ 0 * ends_of g i v = ap (λ k. k * ends_of g i v) a in omega arith)
        ∙ (let a : bit (singleton e e) * ends_of g e v ≡ 1 * ends_of g e v = ap (λ k. bit k * ends_of g e v) (eq-eqb e e refl) in let b = ends_of_is g e x y (has_ends-cases g x y e h) v in omega arith)

module _ (g : Graph) (is : IsGraph g) (cov : IsCovered g) where
  -- four_set vertices that leave no perfect matching give a nontrivial tight set
  module _ (x : Set) (two : IsSide g x) (a c b d : ℕ) (wa : Within g.order a) (wc : Within g.order c) (wb : Within g.order b) (wd : Within g.order d) (ac : a ≢ c) (bd : b ≢ d)
      (xa : x a ≡ true) (xc : x c ≡ true) (xb : x b ≡ false) (xd : x d ≡ false) where
    abbrev lefts : Set
    lefts = minus (minus x (singleton a)) (singleton c)

    abbrev rights : Set
    rights = minus (minus (complement x) (singleton b)) (singleton d)

    abbrev beside : ℕ → ℕ → Bool
    beside u v = some (size g) (has_ends g u v)

    left_parts : (v : ℕ) → lefts v ≡ true → (x v ≡ true) × ((a == v) ≡ false) × ((c == v) ≡ false)
    left_parts v h = grind arith

    right_parts : (v : ℕ) → rights v ≡ true → (x v ≡ false) × ((b == v) ≡ false) × ((d == v) ≡ false)
    right_parts v h = grind arith

    -- Hall's condition holds: a perfect matching
    matched : ((z : Set) → count g.order (meet z lefts) ≤ count g.order (neighbours g.order beside rights (meet z lefts))) → (m : Set) × IsPerfect g (four_set a c b d) m
    matched enough = let m = glue_family g is lefts star each apart in (m.0, perfect_congr g _ (four_set a c b d) m.0 (λ v w. all v w) m.1)
      where
        picks : Picks g.order beside lefts rights
        picks = hall g.order beside (count g.order lefts) lefts rights (omega arith) enough

        star : ℕ → Set
        star z = union (singleton z) (singleton (picks.to z))

        each : (z : ℕ) → Within g.order z → lefts z ≡ true → (m : Set) × IsPerfect g (complement (star z)) m
        each z w h =
            let r = picks.lands z w h in
            let e = some_true (size g) (has_ends g z (picks.to z)) r.2 in
            (singleton e.0, one_edge g e.0 z (picks.to z) e.1 e.2 (λ q. both_ways (x z) (ap x q ∙ (right_parts (picks.to z) r.1).0) (left_parts z h).0))

        apart : (y z v : ℕ) → Within g.order y → Within g.order z → Within g.order v → lefts y ≡ true → star y v ≡ true → lefts z ≡ true → star z v ≡ true → y ≡ z
        apart y z v wy wz wv ly sy lz sz =
            let ry = right_parts (picks.to y) (picks.lands y wy ly).1 in let rz = right_parts (picks.to z) (picks.lands z wz lz).1 in
            elim (or_cases (y == v) (picks.to y == v) sy) [
              | inl i ↦ grind arith
              | inr i ↦ grind (arith, or_cases (z == v) (picks.to z == v) sz, both_ways (x z), eqb-true z v, eqb-true (picks.to y) v i, left_parts z lz, eqb-true (picks.to z) v)
            ]

        as_many : count g.order lefts ≡ count g.order rights
        as_many =
            let e = equal_sides g is x two cov in
            let p = count_minus g.order x a wa xa in
            let q = count_minus g.order (minus x (singleton a)) c wc (rw (xc, ne_eqb a c ac) refl) in
            let r = count_minus g.order (complement x) b wb (ap not xb) in
            let s = count_minus g.order (minus (complement x) (singleton b)) d wd (rw (xd, ne_eqb b d bd) refl) in omega arith

        cover : (v : ℕ) → Within g.order v → some g.order (λ z. lefts z && star z v) ≡ not (four_set a c b d v)
        cover v w = same_tests _ _ there back
          where
            out' : (i j k l s : Bool) → k ≡ false → l ≡ false → (i ≡ true → s ≡ true) → (j ≡ true → s ≡ true) → s ≡ false → not ((i || j) || (k || l)) ≡ true
            out' i j k l s h1 h2 h3 h4 h5 = grind arith

            there : some g.order (λ z. lefts z && star z v) ≡ true → not (four_set a c b d v) ≡ true
            there h =
                let z = some_true g.order (λ z. lefts z && star z v) h in
                let p = and_parts (lefts z.0) (star z.0 v) z.2 in
                elim (or_cases (z.0 == v) (picks.to z.0 == v) p.1) [
                  | inl i ↦ grind arith
                  | inr i ↦ grind (arith, eqb-true (picks.to z.0) v i, right_parts v, out' (a == v) (c == v) (b == v) (d == v) (x v), eqb-true a v, eqb-true c v)
                ]

            no_one : (i j k l : Bool) → not ((i || j) || (k || l)) ≡ true → (i ≡ false) × (j ≡ false) × (k ≡ false) × (l ≡ false)
            no_one i j k l h = grind arith

            last : (i j k : Bool) → i ≡ true → k ≡ true → (i && (j || k)) ≡ true
            last i j k h l = grind arith

            back : not (four_set a c b d v) ≡ true → some g.order (λ z. lefts z && star z v) ≡ true
            back h =
                let q = no_one (a == v) (c == v) (b == v) (d == v) h in
                elim (cases_Bool (x v)) [
                  | inl t ↦ true_some g.order (λ z. lefts z && star z v) v w (grind arith)
                  | inr f ↦
                      let k = hits g.order beside lefts rights picks as_many v w (rw (f, q.2, q.3) refl) in
                      true_some g.order (λ z. lefts z && star z v) k.0 k.1 (last (lefts k.0) (k.0 == v) (picks.to k.0 == v) k.2 (eq-eqb _ _ k.3))
                ]

        all : (v : ℕ) → Within g.order v → complement (λ v. some g.order (λ z. lefts z && star z v)) v ≡ four_set a c b d v
        all v w = ap not (cover v w) ∙ not_not (four_set a c b d v)

    -- and where it does not, a tight set
    module _ (z : Set) (few : count g.order (neighbours g.order beside rights (meet z lefts)) < count g.order (meet z lefts)) where
      abbrev some_left : Set
      some_left = meet z lefts

      abbrev near_set : Set
      near_set = neighbours g.order beside (complement x) some_left

      in_left : (v : ℕ) → some_left v ≡ true → x v ≡ true
      in_left v h = (left_parts v (and_parts (z v) (lefts v) h).1).0

      in_right : (v : ℕ) → near_set v ≡ true → complement x v ≡ true
      in_right v h = (and_parts (complement x v) (some g.order (λ u. some_left u && beside u v)) h).0

      into : (e : ℕ) → Within (size g) e → first_end g e ≢ second_end g e → (some_left (first_end g e) ≡ true → near_set (second_end g e) ≡ true) × (some_left (second_end g e) ≡ true → near_set (first_end g e) ≡ true)
      into e w l = (
        (λ h. and_from (complement x (second_end g e)) (some g.order (λ u. some_left u && beside u (second_end g e))) (grind arith)
            (true_some g.order (λ u. some_left u && beside u (second_end g e)) (first_end g e) (is e w).0 (and_from (some_left (first_end g e)) _ h (true_some (size g) (has_ends g (first_end g e) (second_end g e)) e w (has_ends-own g e))))),
        λ h. and_from (complement x (first_end g e)) (some g.order (λ u. some_left u && beside u (first_end g e))) (back (x (first_end g e)) (x (second_end g e)) (two e w l) (in_left (second_end g e) h))
            (true_some g.order (λ u. some_left u && beside u (first_end g e)) (second_end g e) (is e w).1 (and_from (some_left (second_end g e)) _ h (true_some (size g) (has_ends g (second_end g e) (first_end g e)) e w (has_ends-back g (first_end g e) (second_end g e) e (has_ends-own g e))))),
      )
        where
          back : (i j : Bool) → ((i && not j) || (not i && j)) ≡ true → j ≡ true → not i ≡ true
          back i j h k = grind arith

      left_out : (v : ℕ) → some_left v ≡ true → near_set v ≡ false
      left_out v h = grind arith

      cut_is : (m : Set) → IsPerfect g none m → count g.order near_set ≡ count g.order some_left + edges_in_cut g m (union some_left near_set)
      cut_is m p =
          let s = cut_split g m some_left near_set (λ e w t. into e w (loop_free g none m is p e w t)) (λ e w. (left_out (first_end g e), left_out (second_end g e))) in
          let i = side_count g is x some_left m two in_left p in
          let j = side_count g is (complement x) near_set m (other_side g is x two) in_right p in omega arith

      near_few : count g.order near_set ≤ count g.order (neighbours g.order beside rights some_left) + 2
      near_few =
          let l = total_le g.order (λ v. bit (near_set v)) (λ v. bit (neighbours g.order beside rights some_left v) + (bit (singleton b v) + bit (singleton d v))) (λ v w. grind arith) in
          let s = total_add g.order (λ v. bit (neighbours g.order beside rights some_left v)) (λ v. bit (singleton b v) + bit (singleton d v)) in
          let t = total_add g.order (λ v. bit (singleton b v)) (λ v. bit (singleton d v)) in
          let i = count_singleton g.order b wb in let j = count_singleton g.order d wd in omega arith

      a_out : union some_left near_set a ≡ false
      a_out = grind arith

      c_out : union some_left near_set c ≡ false
      c_out = grind arith

      one_more : count g.order near_set ≡ count g.order some_left + 1
      one_more =
          let u = count_member g.order some_left (omega arith) in
          let m = cut_matching g (union some_left near_set) u.0 a is cov u.1 wa (ap (λ k. k || near_set u.0) u.2) a_out in
          let e = cut_is m.0 m.1 in let f = near_few in let k = m.2 in omega arith

      tight : IsTight g (union some_left near_set)
      tight = let m = covered_perfect g is cov in tight_from_cut g (union some_left near_set) m.0 is m.1 (λ k p. let e = cut_is k p in let f = one_more in omega arith)

      size_is : count g.order (union some_left near_set) ≡ count g.order some_left + count g.order near_set
      size_is = total_congr g.order _ _ (λ v w. grind arith) ∙ total_add g.order (λ v. bit (some_left v)) (λ v. bit (near_set v))

      nontrivial : IsNontrivial g.order (union some_left near_set)
      nontrivial = let s = size_is in let o = one_more in record { inside = omega arith; outside = odd_three _ tight.odd_complement (two_members g.order (complement (union some_left near_set)) a c wa wc ac (ap not a_out) (ap not c_out)) }

    test_respects : Respects g.order (λ z. nat_lt (count g.order (neighbours g.order beside rights (meet z lefts))) (count g.order (meet z lefts)))
    test_respects = record {
      same = λ y z h. ap₂ nat_lt
          (count_congr g.order _ _ (λ v w. ap (λ k. rights v && k) (some_congr g.order _ _ (λ u t. ap (λ k. (k && lefts u) && beside u v) (h u t)))))
          (count_congr g.order _ _ (λ v w. ap (λ k. k && lefts v) (h v w)));
    }

    pub matched_or_tight : ((m : Set) × IsPerfect g (four_set a c b d) m) ⊎ ((y : Set) × IsTight g y × IsNontrivial g.order y)
    matched_or_tight = elim (choose_set g.order (λ z. nat_lt (count g.order (neighbours g.order beside rights (meet z lefts))) (count g.order (meet z lefts))) test_respects) [
      | inl r ↦ let l = ltb-true _ _ r.1 in inr (union (some_left r.0 l) (near_set r.0 l), tight r.0 l, nontrivial r.0 l)
      | inr f ↦ inl (matched (λ z. ltb-false _ _ (f z)))
    ]
