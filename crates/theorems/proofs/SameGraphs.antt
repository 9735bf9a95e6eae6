-- Quotients as simple graphs: two leaves are one graph if and only if their quotients are
-- isomorphic; and along a bijection one counts alike.
use Rattle.tree_check.proofs.from_counting.Common.{◌≡◌, ℕ, zero, suc, ◌+◌, ◌*◌, ◌-◌, ◌≤◌, ◌<◌, Bool, true, false, cond, ◌==◌, ◌&&◌, ◌||◌, not, refl, sym, ap, ◌∙◌, arith, eq-eqb, eqb-true, List, [], ◌∷◌, length, subst, inl, inr, count_by, slice_index_or, sum_by-cons, and_from, and_parts, bit-and, both_ways, cases_Bool, cases_order, count_le_one, count_of_one, every_congr, every_true, member_count, not-true, same_tests, some_set_found, some_set_none, some_true, total-first, total_congr, total_mul, total_ones, total_swap, true_every, true_some, Respects, Within, bit, count, every, some, Set, none}
use Rattle.graph_core.proofs.Common.{adjacent-edge, adjacent_from, edge_of_pair, has_ends-cases, has_ends-own, has_ends-back, quotient-order, quotient_edge, Graph, IsBipartite, IsGraph, adjacent, blocks_adjacent, first_end, has_ends, in_cut, quotient, second_end, size}
use Rattle.tree_core.proofs.QuotientSides.{adjacent_back}
use Rattle.theorems.specs.TightCuts.{IsBijection, IsIsomorphism, IsSameGraph, is_two_sided}

-- the vertices of the quotient are adjacent where the blocks are
module _ (g : Graph) (p : List (List ℕ)) where
  quotient_adjacent : (i j : ℕ) → Within (length p) i → Within (length p) j → adjacent (quotient g p) none i j ≡ blocks_adjacent g p i j
  quotient_adjacent i j wi wj = same_tests (adjacent (quotient g p) none i j) (blocks_adjacent g p i j) down up
    where
      h : Graph
      h = quotient g p

      down : adjacent (quotient g p) none i j ≡ true → blocks_adjacent g p i j ≡ true
      down t =
          let e = (adjacent-edge (quotient g p) none i j t).2 in
          let q = quotient_edge g p e.0 e.1 in
          elim (has_ends-cases (quotient g p) i j e.0 e.2) [
            | inl k ↦ subst (λ b. blocks_adjacent g p i b ≡ true) k.1 (subst (λ a. blocks_adjacent g p a (second_end (quotient g p) e.0) ≡ true) k.0 q.3)
            | inr k ↦ adjacent_back g p j i (subst (λ b. blocks_adjacent g p j b ≡ true) k.1 (subst (λ a. blocks_adjacent g p a (second_end (quotient g p) e.0) ≡ true) k.0 q.3))
          ]

      ordered : (a b : ℕ) → Within (length p) a → Within (length p) b → a < b → blocks_adjacent g p a b ≡ true → (e : ℕ) × Within (size (quotient g p)) e × (has_ends (quotient g p) a b e ≡ true)
      ordered a b wa wb l t = grind (arith, edge_of_pair, has_ends, quotient, second_end, has_ends-own)

      up : blocks_adjacent g p i j ≡ true → adjacent (quotient g p) none i j ≡ true
      up t = elim (cases_order i j) [
        | inl q ↦ absurd (both_ways (i == j) (not-true (i == j) (and_parts (not (i == j)) _ t).0) (eq-eqb i j q))
        | inr o ↦ elim o [
          | inl l ↦ let e = ordered i j wi wj l t in adjacent_from (quotient g p) none i j e.0 refl refl e.1 e.2
          | inr l ↦ let e = ordered j i wj wi l (adjacent_back g p i j t) in adjacent_from (quotient g p) none i j e.0 refl refl e.1 (has_ends-back (quotient g p) j i e.0 e.2)
        ]
      ]

pub same-isomorphism : (g : Graph) (p q : List (List ℕ)) (f : ℕ → ℕ) → IsSameGraph g p q f → IsIsomorphism (quotient g p) (quotient g q) f
same-isomorphism g p q f same = grind (arith, quotient, quotient-order, length, quotient_adjacent)

-- along a bijection one counts alike
module _ (n m : ℕ) (f : ℕ → ℕ) (is : IsBijection n m f) where
  one_each : (k : ℕ) → Within m k → count n (λ i. f i == k) ≡ 1
  one_each k w =
      let i = is.onto k w in
      let a = member_count n (λ i. f i == k) i.0 i.1 (eq-eqb (f i.0) k i.2) in
      let b = count_le_one n (λ i. f i == k) (λ u v wu wv less hu hv. differ u v less (is.once u v wu wv (eqb-true (f u) k hu ∙ sym (eqb-true (f v) k hv)))) in
      omega arith
    where
      differ : (u v : ℕ) → u < v → u ≡ v → ⊥
      differ u v l e = omega arith

  pub count_along : (p q : ℕ → Bool) → ((i : ℕ) → Within n i → p i ≡ q (f i)) → count n p ≡ count m q
  count_along p q same =
      total_congr n _ _ (λ i w. ap bit (same i w) ∙ sym (count_of_one m q (f i) (is.within i w)))
      ∙ total_swap n m (λ i k. bit (q k && (f i == k)))
      ∙ total_congr m _ _ (λ k w.
      total_congr n _ _ (λ i wi. bit-and (q k) (f i == k))
      ∙ total_mul n (bit (q k)) (λ i. bit (f i == k))
      ∙ (let o = one_each k w in times_one (bit (q k)) (count n (λ i. f i == k)) o))
    where
      times_one : (a b : ℕ) → b ≡ 1 → a * b ≡ a
      times_one a b e = rw e (omega arith)

  pub same_length : n ≡ m
  same_length = sym (total_ones n) ∙ count_along (λ i. true) (λ i. true) (λ i w. refl) ∙ total_ones m

-- a list counted by its places
pub count_places : {A : Type 0} (p : A → Bool) (xs : List A) (d : A) → count_by p xs ≡ count (length xs) (λ i. p (slice_index_or xs (i - 1) d))
count_places p [] d = refl
count_places p (x ∷ xs) d =
    sum_by-cons (λ y. cond (p y) 1 0) x xs
    ∙ (let ih = count_places p xs d in
    let f = total-first (length xs) (λ i. bit (p (slice_index_or (x ∷ xs) (i - 1) d))) in
    let c = total_congr (length xs) (λ i. bit (p (slice_index_or (x ∷ xs) ((i + 1) - 1) d))) (λ i. bit (p (slice_index_or xs (i - 1) d))) (λ i w. ap (λ y. bit (p y)) (shift i w.0)) in
    let b = own (p x) in omega arith)
  where
    own : (b : Bool) → cond b 1 0 ≡ bit b
    own true = refl
    own false = refl

    shift : (i : ℕ) → 1 ≤ i → slice_index_or (x ∷ xs) ((i + 1) - 1) d ≡ slice_index_or xs (i - 1) d
    shift zero l = absurd (omega arith)
    shift (suc j) l = grind (arith, slice_index_or)

-- in the cut of x or not goes by the two ends
cut_at : (g : Graph) (x : Set) (u v e : ℕ) → has_ends g u v e ≡ true → in_cut g x e ≡ ((x u && not (x v)) || (not (x u) && x v))
cut_at g x u v e h = grind arith

-- a test of sides goes by the vertices alone
two_sided_respects : (g : Graph) → IsGraph g → Respects g.order (λ x. every (size g) (in_cut g x))
two_sided_respects g is = grind (arith, every_congr, size, in_cut, first_end, second_end)

two_sided_says : (g : Graph) → is_two_sided g ≡ true → IsBipartite g
two_sided_says g h = let x = some_set_found g.order (λ x. every (size g) (in_cut g x)) h in (x.0, every_true (size g) (in_cut g x.0) x.1)

two_sided_found : (g : Graph) → IsGraph g → IsBipartite g → is_two_sided g ≡ true
two_sided_found g is sides = elim (cases_Bool (is_two_sided g)) [
  | inl t ↦ t
  | inr f ↦ absurd (both_ways (every (size g) (in_cut g sides.0)) (some_set_none g.order (λ x. every (size g) (in_cut g x)) (two_sided_respects g is) f sides.0) (true_every (size g) (in_cut g sides.0) sides.1))
]

module _ (g h : Graph) (f : ℕ → ℕ) (gg : IsGraph g) (hh : IsGraph h) (iso : IsIsomorphism g h f) where
  -- sides of the image are sides
  pull : IsBipartite h → IsBipartite g
  pull sides = (
    (λ v. sides.0 (f v)),
    (λ e w.
        let u = first_end g e in
        let v = second_end g e in
        let a = adjacent_from g none (first_end g e) (second_end g e) e refl refl w (has_ends-own g e) in
        let d = (adjacent-edge h none (f (first_end g e)) (f (second_end g e)) (sym (iso.edges (first_end g e) (second_end g e) (gg e w).0 (gg e w).1) ∙ a)).2 in
        sym (cut_at h sides.0 (f (first_end g e)) (f (second_end g e)) d.0 d.2) ∙ sides.1 d.0 d.1),
  )

  -- and the images of sides are sides
  push : IsBipartite g → IsBipartite h
  push sides = (
    y,
    λ e w.
        let u = iso.bijection.onto (first_end h e) (hh e w).0 in
        let v = iso.bijection.onto (second_end h e) (hh e w).1 in
        let a = adjacent_from h none (f u.0) (f v.0) e refl refl w (subst (λ k. has_ends h (f u.0) k e ≡ true) (sym v.2) (subst (λ k. has_ends h k (second_end h e) e ≡ true) (sym u.2) (has_ends-own h e))) in
        let d = (adjacent-edge g none u.0 v.0 (iso.edges u.0 v.0 u.1 v.1 ∙ a)).2 in
        across (y (first_end h e)) (sides.0 u.0) (y (second_end h e)) (sides.0 v.0) (ap y (sym u.2) ∙ at u.0 u.1) (ap y (sym v.2) ∙ at v.0 v.1) (sym (cut_at g sides.0 u.0 v.0 d.0 d.2) ∙ sides.1 d.0 d.1),
  )
    where
      y : Set
      y w = some g.order (λ v. sides.0 v && (f v == w))

      at : (v : ℕ) → Within g.order v → y (f v) ≡ sides.0 v
      at v wv = same_tests (y (f v)) (sides.0 v)
          (λ t. let u = some_true g.order (λ u. sides.0 u && (f u == f v)) t in
          let p = and_parts (sides.0 u.0) (f u.0 == f v) u.2 in
          ap sides.0 (sym (iso.bijection.once u.0 v u.1 wv (eqb-true (f u.0) (f v) p.1))) ∙ p.0)
          (λ t. true_some g.order (λ u. sides.0 u && (f u == f v)) v wv (and_from (sides.0 v) (f v == f v) t (eq-eqb (f v) (f v) refl)))

      across : (a b c d : Bool) → a ≡ b → c ≡ d → ((b && not d) || (not b && d)) ≡ true → ((a && not c) || (not a && c)) ≡ true
      across a b c d p q k = grind arith

  pub same_sides : is_two_sided g ≡ is_two_sided h
  same_sides = same_tests (is_two_sided g) (is_two_sided h) (λ t. two_sided_found h hh (push (two_sided_says g t))) (λ t. two_sided_found g gg (pull (two_sided_says h t)))
