-- If the items of two lists are paired one to one so that partners are equal, as many items of
-- each pass a test.
use Rattle.allowed_edges.proofs.from_counting.Common.{Bool, List, ◌∷◌, ap, arith, cond, eq-eqb, eqb-true, get_or, length, refl, suc, sym, true, ℕ, ◌+◌, ◌-◌, ◌==◌, ◌∙◌, ◌≡◌, count_by, is_count_by, bit_true, only_one, least_of, least_of_is, true_some, some_term, total-first, total_congr, total_ones, Within, bit, count, Set}
use Rattle.graph_core.proofs.Common.{count_over}

-- the number of items that pass a test, by places counted from 1
abbrev pub passing : {A : Type 0} → (A → Bool) → A → List A → ℕ
passing test d xs = count (length xs) (λ i. test (get_or xs (i - 1) d))

pub count_by-places : {A : Type 0} (test : A → Bool) (xs : List A) (d : A) → count_by test xs ≡ passing test d xs
count_by-places {A} test xs d = sym (is_count_by (passing test d) test refl step xs)
  where
    shifted : (x : A) (ys : List A) (i : ℕ) → Within (length ys) i → bit (test (get_or (x ∷ ys) (i + 1 - 1) d)) ≡ bit (test (get_or ys (i - 1) d))
    shifted x ys i w = let e : i + 1 - 1 ≡ suc (i - 1) = omega arith in ap (λ k. bit (test (get_or (x ∷ ys) k d))) e

    step : (x : A) (ys : List A) → passing test d (x ∷ ys) ≡ cond (test x) (1 + passing test d ys) (passing test d ys)
    step x ys =
        total-first (length ys) (λ i. bit (test (get_or (x ∷ ys) (i - 1) d)))
        ∙ ap (λ n. bit (test x) + n) (total_congr (length ys) (λ i. bit (test (get_or (x ∷ ys) (i + 1 - 1) d))) (λ i. bit (test (get_or ys (i - 1) d))) (shifted x ys))
        ∙ (grind arith)

-- a map of 1 to n to 1 to m that meets each exactly once
module _ (n m : ℕ) (to : ℕ → ℕ) (within : (i : ℕ) → Within n i → Within m (to i)) (once : (j : ℕ) → Within m j → count n (λ i. to i == j) ≡ 1) where
  from : ℕ → ℕ
  from j = least_of n (λ i. to i == j)

  from_is : (j : ℕ) → Within m j → Within n (from j) × (to (from j) ≡ j)
  unfolding from
  from_is j w =
      let c = once j w in
      let r = some_term n (λ i. bit (to i == j)) (omega arith) in
      let l = least_of_is n (λ i. to i == j) (true_some n (λ i. to i == j) r.0 r.1 (bit_true (to r.0 == j) r.2)) in
      (l.0, eqb-true (to (from j)) j l.1)

  from_to : (i : ℕ) → Within n i → from (to i) ≡ i
  from_to i w =
      let f = from_is (to i) (within i w) in
      only_one n (λ k. to k == to i) (once (to i) (within i w)) (from (to i)) i f.0 w (eq-eqb (to (from (to i))) (to i) f.1) (eq-eqb (to i) (to i) refl)

  pub paired_count : (x y : Set) → ((i : ℕ) → Within n i → x i ≡ y (to i)) → count n x ≡ count m y
  paired_count x y same = grind (arith, count_over n m x y to from, from_to, from_is)

  pub paired_length : n ≡ m
  paired_length = sym (total_ones n) ∙ paired_count (λ i. true) (λ j. true) (λ i w. refl) ∙ total_ones m

-- as many pass a test
pub paired_tests : {A : Type 0} (test : A → Bool) (xs ys : List A) (d : A) (to : ℕ → ℕ) →
    ((i : ℕ) → Within (length xs) i → Within (length ys) (to i)) → ((j : ℕ) → Within (length ys) j → count (length xs) (λ i. to i == j) ≡ 1) →
    ((i : ℕ) → Within (length xs) i → get_or xs (i - 1) d ≡ get_or ys (to i - 1) d) → count_by test xs ≡ count_by test ys
paired_tests test xs ys d to within once same = grind (arith, count_by-places test xs d, paired_count (length xs) (length ys) to within once, count_by-places test ys d)
