-- The lists of components and of classes are ordered by their least vertices: each is the list of
-- what belongs to its least vertex, and the least vertices are in increasing order. The odd lists
-- are counted at these vertices.
use Rattle.counting.proofs.Common.{◌≡◌, ℕ, zero, suc, Bool, true, cond, ◌&&◌, ◌∷◌, [], List, length, map, refl, sym, arith, inl, inr, nat_lt, lt-ltb, subst, ◌≤◌, count_by, slice_index, sum_by-append, IsStrictlyIncreasing, and_from, both_ways, cases_order, false_from_ne_true, not-true, true≢false, map-append, count_congr, rising_holds, rising_only, first-least, length-rising_list, rising_list-rises, true_some, Within, count, is_odd, IsLeastOf, IsRisingIn, mem, rising_list, Set, some}
use Rattle.barrier_kit.proofs.Common.{equivalent_back}
use Rattle.graph_core.proofs.Common.{joined_walk, walk_joined, is_equivalent_found, is_equivalent_says, joined_self, components, is_least, odd_component_count, Graph, IsGraph, classes, is_equivalent, is_least_of_class, joined}
use Rattle.definition_laws.proofs.Leaders.{least_says}

-- the first number of an increasing list is its least
first-of_rising : (n : ℕ) (xs : List ℕ) (v : ℕ) → IsRisingIn n xs → IsLeastOf xs v → slice_index xs 0 ≡ v
first-of_rising n [] v rises least = absurd (true≢false (sym least.member))
first-of_rising n (x ∷ xs) v rises least = first-least n x v xs rises least

-- a list of which each number is the least of its own set
first_of-lists : (n : ℕ) (f : ℕ → Set) (us : List ℕ) → ((u : ℕ) → mem us u ≡ true → IsLeastOf (rising_list n (f u)) u) → map (λ (c : List ℕ). slice_index c 0) (map (λ u. rising_list n (f u)) us) ≡ us
first_of-lists n f [] least = refl
first_of-lists n f (u ∷ us) least =
    let here = first-of_rising n (rising_list n (f u)) u (rising_list-rises n (f u)) (least u (grind arith)) in
    let rest = first_of-lists n f us (λ w held. least w (further w u us held)) in
    cons here rest
  where
    further : (w u : ℕ) (us : List ℕ) → mem us w ≡ true → mem (u ∷ us) w ≡ true
    further w u us held = grind arith

    cons : {a b : ℕ} {xs ys : List ℕ} → a ≡ b → xs ≡ ys → a ∷ xs ≡ b ∷ ys
    cons e k = rw e (rw k refl)

-- u is the least of the list where it is in the set and no number of the set is below it
least-of_list : (n : ℕ) (x : Set) (u : ℕ) → Within n u → x u ≡ true → ((v : ℕ) → Within n v → x v ≡ true → u ≤ v) → IsLeastOf (rising_list n x) u
least-of_list n x u w held below = grind (arith, rising_holds n x u w held, false_from_ne_true, rising_only n x)

-- the components are ordered by their least vertices
pub components-order : (g : Graph) (s : Set) → IsGraph g → IsStrictlyIncreasing (map (λ (c : List ℕ). slice_index c 0) (components g s))
unfolding components
components-order g s is =
    let us = rising_list g.order (is_least g s) in
    subst IsStrictlyIncreasing
    (sym (first_of-lists g.order (joined g s) us (λ u held.
    let m = rising_only g.order (is_least g s) u held in
    least-of_list g.order (joined g s u) u m.0 (walk_joined g s is u u m.0 (joined_self g s u)) (λ v w j. (least_says g s is u m.0 m.1).1 v w (joined_walk g s u v j)))))
    (rising_list-rises g.order (is_least g s)).rising

-- and so do the classes
pub classes-order : (g : Graph) → IsStrictlyIncreasing (map (λ (c : List ℕ). slice_index c 0) (classes g))
unfolding classes
classes-order g =
    let us = rising_list g.order (is_least_of_class g) in
    subst IsStrictlyIncreasing
    (sym (first_of-lists g.order (is_equivalent g) us (λ a held.
    let m = rising_only g.order (is_least_of_class g) a held in
    least-of_list g.order (is_equivalent g a) a m.0 (is_equivalent_found g a a (inl refl)) (λ v w t. not_below a v m.1 w t))))
    (rising_list-rises g.order (is_least_of_class g)).rising
  where
    not_below : (a v : ℕ) → is_least_of_class g a ≡ true → Within g.order v → is_equivalent g a v ≡ true → a ≤ v
    not_below a v least w t = elim (cases_order v a) [
      | inl e ↦ omega arith
      | inr o ↦ elim o [
        | inl l ↦ absurd (both_ways (some g.order (λ b. nat_lt b a && is_equivalent g b a)) (not-true (some g.order (λ b. nat_lt b a && is_equivalent g b a)) least)
            (true_some g.order (λ b. nat_lt b a && is_equivalent g b a) v w
            (and_from (nat_lt v a) (is_equivalent g v a) (lt-ltb v a l) (is_equivalent_found g v a (equivalent_back g a v (is_equivalent_says g a v t))))))
        | inr l ↦ omega arith
      ]
    ]

-- the lists that pass a test are counted at the numbers that they are made from
count_by-lists : (n : ℕ) (x : Set) (q : List ℕ → Bool) (f : ℕ → List ℕ) → count_by q (map f (rising_list n x)) ≡ count n (λ u. x u && q (f u))
count_by-lists zero x q f = refl
count_by-lists (suc n) x q f = grind (arith, map-append f (rising_list n x) (cond (x (suc n)) (suc n ∷ []) []), sum_by-append, count_by-lists n x q f)

-- o(S) counts the components of odd length
pub odd-lists : (g : Graph) (s : Set) → odd_component_count g s ≡ count_by (λ (c : List ℕ). is_odd (length c)) (components g s)
unfolding odd_component_count components
odd-lists g s = grind (arith, count_by-lists g.order (is_least g s), count_congr g.order, length-rising_list g.order)
