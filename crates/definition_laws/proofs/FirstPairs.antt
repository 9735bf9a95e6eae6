-- The first pair that a search through the pairs a < b finds is the first in lexicographic order.
-- The list is increasing row by row, so every pair before the one found comes earlier in the list.
use Rattle.counting.proofs.Common.{◌≡◌, ℕ, ◌<◌, ◌≤◌, Bool, true, false, List, [], ◌∷◌, ◌++◌, map, flat_map, Some, None, refl, arith, inl, inr, not, nat_lt, nat_le, lt-ltb, ltb-true, leb-true, subst, leb-false, find, both_ways, not-true, not-false, HasPair, rows_hold, rows_only, map_pair, append_pair, above_first, mem-all, rising-tail, rising_list-rises, Within, IsRisingIn, pair_with, rising_list, rising_pairs, ComesBefore, everything, pair_set}
use Rattle.graph_core.proofs.Common.{has_perfect_found, has_perfect_says, component_count, Graph, HasPerfect, has_perfect, cut_pair, equivalent_pair}
use Rattle.definition_laws.specs.Words.{IsFirstPair}

-- each pair is before all later ones
abbrev Rising : List (ℕ × ℕ) → Type 0
Rising [] = Unit {0}
Rising (k ∷ ks) = ((i j : ℕ) → HasPair ks i j → ComesBefore k (i, j)) × Rising ks

-- one increasing list after another is increasing if all of the first comes before the second
parts_rise : (ks ls : List (ℕ × ℕ)) → Rising ks → Rising ls → ((i j a b : ℕ) → HasPair ks i j → HasPair ls a b → ComesBefore (i, j) (a, b)) → Rising (ks ++ ls)
parts_rise [] ls r s h = s
parts_rise (k ∷ ks) ls r s h = (
  λ i j m. elim (append_pair ks ls i j m) [ inl a ↦ r.0 i j a | inr b ↦ h k.0 k.1 i j (inl (refl, refl)) b ],
  parts_rise ks ls r.1 s (λ i j a b m. h i j a b (inr m)),
)

-- a row is increasing
row_rises : (a n : ℕ) (xs : List ℕ) → IsRisingIn n xs → Rising (map (pair_with a) xs)
row_rises a n [] r = tt
row_rises a n (x ∷ xs) r = (λ i j m. let q = map_pair a xs i j m in inr (q.0, above_first n x xs r j q.1), row_rises a n xs (rising-tail n x xs r))

-- the rows one after another are increasing
rows_rise : (n : ℕ) (xs : List ℕ) → IsRisingIn n xs → Rising (flat_map (λ a. map (pair_with a) (rising_list n (nat_lt a))) xs)
rows_rise n [] r = tt
rows_rise n (x ∷ xs) r =
    parts_rise (map (pair_with x) (rising_list n (nat_lt x))) (flat_map (λ a. map (pair_with a) (rising_list n (nat_lt a))) xs)
    (row_rises x n (rising_list n (nat_lt x)) (rising_list-rises n (nat_lt x))) (rows_rise n xs (rising-tail n x xs r))
    (λ i j a b m h. let q = map_pair x (rising_list n (nat_lt x)) i j m in let s = rows_only n a b xs h in inl (subst (λ z. z < a) q.0 (above_first n x xs r a s.0)))

-- the first of an increasing list that passes: it passes, and none before it does
found_first : (t : ℕ → ℕ → Bool) (ks : List (ℕ × ℕ)) (k : ℕ × ℕ) → Rising ks → find (λ l. t l.0 l.1) ks ≡ Some k →
    HasPair ks k.0 k.1 × (t k.0 k.1 ≡ true) × ((i j : ℕ) → HasPair ks i j → ComesBefore (i, j) k → t i j ≡ false)
found_first t [] k r h = let z : None ≡ Some k = h in absurd cc
found_first t (l ∷ ks) k r h = go (t l.0 l.1) refl (found_first t ks k r.1)
  where
    go : (b : Bool) → t l.0 l.1 ≡ b →
        (find (λ l. t l.0 l.1) ks ≡ Some k → HasPair ks k.0 k.1 × (t k.0 k.1 ≡ true) × ((i j : ℕ) → HasPair ks i j → ComesBefore (i, j) k → t i j ≡ false)) →
        HasPair (l ∷ ks) k.0 k.1 × (t k.0 k.1 ≡ true) × ((i j : ℕ) → HasPair (l ∷ ks) i j → ComesBefore (i, j) k → t i j ≡ false)
    go b e ih = grind arith

-- the same for the pairs a < b of 1 to n
first_pair : (n : ℕ) (t : ℕ → ℕ → Bool) (k : ℕ × ℕ) → find (λ l. t l.0 l.1) (rising_pairs n) ≡ Some k →
    (Within n k.0 × Within n k.1 × (k.0 < k.1)) × (t k.0 k.1 ≡ true) × ((a b : ℕ) → Within n a → Within n b → a < b → ComesBefore (a, b) k → t a b ≡ false)
first_pair n t k h =
    let f = found_first t (rising_pairs n) k (rows_rise n (rising_list n everything) (rising_list-rises n everything)) h in
    grind (arith, rows_only n k.0 k.1 (rising_list n everything) f.0, mem-all n k.0, ltb-true k.0 k.1, rows_hold n, mem-all n, lt-ltb)

-- the pair that `equivalent_pair` finds
pub equivalent-first : (g : Graph) (k : ℕ × ℕ) → equivalent_pair g ≡ Some k → IsFirstPair g.order (λ a b. HasPerfect g (pair_set a b) → ⊥) k
unfolding equivalent_pair
equivalent-first g k h =
    let f = first_pair g.order (λ a b. not (has_perfect g (pair_set a b))) k h in (
      f.0,
      λ p. both_ways (has_perfect g (pair_set k.0 k.1)) (not-true (has_perfect g (pair_set k.0 k.1)) f.1) (has_perfect_found g (pair_set k.0 k.1) p),
      λ a b wa wb l before alone. alone (has_perfect_says g (pair_set a b) (not-false (has_perfect g (pair_set a b)) (f.2 a b wa wb l before))),
    )

-- the pair that `cut_pair` finds
pub cut-first : (g : Graph) (k : ℕ × ℕ) → cut_pair g ≡ Some k → IsFirstPair g.order (λ a b. 2 ≤ component_count g (pair_set a b)) k
unfolding cut_pair
cut-first g k h =
    let f = first_pair g.order (λ a b. nat_le 2 (component_count g (pair_set a b))) k h in (
      f.0,
      leb-true 2 (component_count g (pair_set k.0 k.1)) f.1,
      λ a b wa wb l before two. let c = leb-false 2 (component_count g (pair_set a b)) (f.2 a b wa wb l before) in absurd (omega arith),
    )
