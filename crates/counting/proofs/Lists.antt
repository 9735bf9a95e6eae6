-- Increasing lists as sets: an increasing list of numbers 1 to n has as many items as its test
-- counts, and is fixed by its test. By induction on the list, with the least number that may still
-- come.
use Rattle.std.proofs.Common.{◌≡◌, ℕ, ◌+◌, ◌≤◌, ◌<◌, Bool, true, false, ◌==◌, ◌||◌, List, [], ◌∷◌, length, refl, sym, ap, ap₂, ◌∙◌, arith, ◌⊎◌, inl, inr, eq-eqb, ne_eqb, cond, subst, true≢false, suc, zero, ◌*◌, ◌++◌, eqb-true, sum_by, take, get_or, slice_index, slice_index_or, All}
use Rattle.std.specs.List.Sorted.{IsStrictlyIncreasing}
use Rattle.std.proofs.lemmas.Bool.{cases_eq, cases_order, both_ways, cases_lt, or_cases, or_right, or_left, cases_Bool}
use Rattle.std.proofs.lemmas.List.{take_more}
use Rattle.std.proofs.lemmas.List.Sums.{sum_by-cons}
use Rattle.counting.proofs.Totals.{total_add, total_at, total_congr, total_none, total_zero}
use Rattle.counting.specs.Common.{Within, bit, count, total, IsRisingIn, mem, rising_list, times, Set}
use Rattle.counting.proofs.Booleans.{or_false}

-- increasing numbers from low to n
abbrev pub Rises : ℕ → ℕ → List ℕ → Type 0
Rises low n [] = Unit {0}
Rises low n (x ∷ xs) = (low ≤ x) × (x ≤ n) × Rises (x + 1) n xs

pub mem_low : (low n : ℕ) (xs : List ℕ) → Rises low n xs → (v : ℕ) → v < low → mem xs v ≡ false
mem_low low n [] r v h = refl
mem_low low n (x ∷ xs) r v h = let a = r.0 in let b = mem_low (x + 1) n xs r.2 v (omega arith) in grind arith

pub count_mem : (low n : ℕ) (xs : List ℕ) → 1 ≤ low → Rises low n xs → count n (mem xs) ≡ length xs
count_mem low n [] l r = total_zero n
count_mem low n (x ∷ xs) l r =
    let a = r.0 in let b = r.1 in
    let ih = count_mem (x + 1) n xs (omega arith) r.2 in
    let one : total n (λ v. bit (x == v)) ≡ bit (x == x) = total_at n (λ v. bit (x == v)) x (omega arith) (λ v w d. ap bit (ne_eqb x v (λ e. d (sym e)))) in
    let two = total_add n (λ v. bit (x == v)) (λ v. bit (mem xs v)) in
    let three : count n (mem (x ∷ xs)) ≡ total n (λ v. bit (x == v) + bit (mem xs v)) = total_congr n _ _ (λ v w. elim (cases_eq x v) [
      | inl e ↦ apart (x == v) (mem xs v) (inr (mem_low (x + 1) n xs r.2 v (omega arith)))
      | inr e ↦ apart (x == v) (mem xs v) (inl (ne_eqb x v e))
    ]) in
    let four : bit (x == x) ≡ 1 = ap bit (eq-eqb x x refl) in
    omega arith
  where
    apart : (s t : Bool) → (s ≡ false) ⊎ (t ≡ false) → bit (s || t) ≡ bit s + bit t
    apart true true (inl p) = absurd (both_ways true p refl)
    apart true true (inr p) = absurd (both_ways true p refl)
    apart true false p = refl
    apart false t p = sym (omega arith)

-- an increasing list is fixed by its test
pub same_list : (low n : ℕ) (xs ys : List ℕ) → Rises low n xs → Rises low n ys → ((v : ℕ) → mem xs v ≡ mem ys v) → xs ≡ ys
same_list low n [] [] r s h = refl
same_list low n [] (y ∷ ys) r s h = absurd (both_ways (mem (y ∷ ys) y) (sym (h y)) (rw (eq-eqb y y refl) refl))
same_list low n (x ∷ xs) [] r s h = absurd (both_ways (mem (x ∷ xs) x) (h x) (rw (eq-eqb x x refl) refl))
same_list low n (x ∷ xs) (y ∷ ys) r s h = ap₂ ◌∷◌ same_head (same_list (x + 1) n xs ys r.2 (subst (λ k. Rises (k + 1) n ys) (sym same_head) s.2) same_tail)
  where
    own : (z : ℕ) (zs : List ℕ) → mem (z ∷ zs) z ≡ true
    own z zs = rw (eq-eqb z z refl) refl

    same_head : x ≡ y
    same_head = elim (cases_order x y) [
      | inl e ↦ e
      | inr d ↦ grind (arith, both_ways (mem (y ∷ ys) x), mem_low (x + 1) n (y ∷ ys), both_ways (mem (x ∷ xs) y), mem_low (y + 1) n (x ∷ xs))
    ]

    same_tail : (v : ℕ) → mem xs v ≡ mem ys v
    same_tail v = grind (arith, cases_eq, mem_low, same_head, ne_eqb)

-- a sum over the members of an increasing list is a sum over the list
pub total_mem : (low n : ℕ) (f : ℕ → ℕ) (xs : List ℕ) → 1 ≤ low → Rises low n xs → total n (λ v. bit (mem xs v) * f v) ≡ sum_by f xs
total_mem low n f [] l r = total_none n _ (λ v w. omega arith)
total_mem low n f (x ∷ xs) l r =
    let a = r.0 in let b = r.1 in
    total_congr n _ _ (λ v w. elim (cases_eq x v) [
      | inl e ↦ apart (x == v) (mem xs v) (f v) (inr (mem_low (x + 1) n xs r.2 v (omega arith)))
      | inr e ↦ apart (x == v) (mem xs v) (f v) (inl (ne_eqb x v e))
    ])
    ∙ total_add n (λ v. bit (x == v) * f v) (λ v. bit (mem xs v) * f v)
    ∙ ap₂ ◌+◌
    (total_at n (λ v. bit (x == v) * f v) x (omega arith) (λ v w d. rw (ne_eqb x v (λ e. d (sym e))) (omega arith)) ∙ rw (eq-eqb x x refl) (omega arith))
    (total_mem (x + 1) n f xs (omega arith) r.2)
    ∙ sym (sum_by-cons f x xs)
  where
    apart : (s t : Bool) (k : ℕ) → (s ≡ false) ⊎ (t ≡ false) → bit (s || t) * k ≡ bit s * k + bit t * k
    apart true true k (inl p) = absurd (both_ways true p refl)
    apart true true k (inr p) = absurd (both_ways true p refl)
    apart true false k p = omega arith
    apart false t k p = omega arith

pub mem-append : (xs ys : List ℕ) (v : ℕ) → mem (xs ++ ys) v ≡ (mem xs v || mem ys v)
mem-append [] ys v = refl
mem-append (x ∷ xs) ys v = ap (λ b. (x == v) || b) (mem-append xs ys v) ∙ parted (x == v) (mem xs v) (mem ys v)
  where
    parted : (a b c : Bool) → (a || (b || c)) ≡ ((a || b) || c)
    parted true b c = refl
    parted false b c = refl

-- the first items of a list, and one more of them
pub mem-more : (xs : List ℕ) (k v : ℕ) → k < length xs → mem (take (k + 1) xs) v ≡ (mem (take k xs) v || (get_or xs k 0 == v))
mem-more xs k v l = ap (λ ys. mem ys v) (take_more xs k 0 l) ∙ mem-append (take k xs) (get_or xs k 0 ∷ []) v ∙ ap (λ b. mem (take k xs) v || b) (or_false (get_or xs k 0 == v))

-- an increasing list contains what passes, and nothing else
pub rising_holds : (n : ℕ) (x : Set) (v : ℕ) → Within n v → x v ≡ true → mem (rising_list n x) v ≡ true
rising_holds zero x v w h = absurd (omega arith)
rising_holds (suc n) x v w h = mem-append (rising_list n x) (cond (x (suc n)) (suc n ∷ []) []) v ∙ elim (cases_lt v (suc n)) [
  | inl l ↦ or_left (mem (rising_list n x) v) (mem (cond (x (suc n)) (suc n ∷ []) []) v) (rising_holds n x v (omega arith) h)
  | inr g ↦ let e : v ≡ suc n = omega arith in or_right (mem (rising_list n x) v) (mem (cond (x (suc n)) (suc n ∷ []) []) v) (last (x (suc n)) (ap x (sym e) ∙ h) e)
]
  where
    last : (t : Bool) → t ≡ true → v ≡ suc n → mem (cond t (suc n ∷ []) []) v ≡ true
    last true h e = or_left (suc n == v) false (eq-eqb (suc n) v (sym e))
    last false h e = h

pub rising_only : (n : ℕ) (x : Set) (v : ℕ) → mem (rising_list n x) v ≡ true → Within n v × (x v ≡ true)
rising_only zero x v h = absurd (both_ways false refl h)
rising_only (suc n) x v h = elim (or_cases (mem (rising_list n x) v) (mem (cond (x (suc n)) (suc n ∷ []) []) v) (sym (mem-append (rising_list n x) (cond (x (suc n)) (suc n ∷ []) []) v) ∙ h)) [
  | inl a ↦ let r = rising_only n x v a in let w = r.0 in ((omega arith, omega arith), r.1)
  | inr b ↦ last (x (suc n)) refl b
]
  where
    last : (t : Bool) → x (suc n) ≡ t → mem (cond t (suc n ∷ []) []) v ≡ true → Within (suc n) v × (x v ≡ true)
    last true e m = elim (or_cases (suc n == v) false m) [
      | inl s ↦ let d = eqb-true (suc n) v s in ((omega arith, omega arith), ap x (sym d) ∙ e)
      | inr s ↦ absurd (both_ways false refl s)
    ]
    last false e m = absurd (both_ways false refl m)

-- a list of 1 to n in which each number is less than the next is increasing from its first item on
pub rises-from_neighbours : (low n : ℕ) (xs : List ℕ) → IsStrictlyIncreasing xs → All (Within n) xs → (0 < length xs → low ≤ slice_index_or xs 0 0) → Rises low n xs
rises-from_neighbours low n [] i a l = tt
rises-from_neighbours low n (x ∷ xs) i a l = (l (omega arith), (a 0 0 (omega arith)).1, rises-from_neighbours (x + 1) n xs tail_rises tail_within first_above)
  where
    tail_rises : IsStrictlyIncreasing xs
    tail_rises k h = let e : suc k + 1 ≡ suc (k + 1) = omega arith in subst (λ j. slice_index xs k < slice_index (x ∷ xs) j) e (i (suc k) (omega arith))

    tail_within : All (Within n) xs
    tail_within k d h = a (suc k) d (omega arith)

    first_above : 0 < length xs → x + 1 ≤ slice_index_or xs 0 0
    first_above h = let r = i 0 (omega arith) in omega (arith, r)

-- a set of numbers 1 to n as a list is increasing from 1
pub rises-from_set : (n : ℕ) (xs : List ℕ) → IsRisingIn n xs → Rises 1 n xs
rises-from_set n [] r = tt
rises-from_set n (x ∷ xs) r = rises-from_neighbours 1 n (x ∷ xs) r.rising r.within (λ h. (r.within 0 0 h).0)

-- a set of numbers 1 to n as a list has as many items as its test counts
pub count_mem_length : (n : ℕ) (xs : List ℕ) → IsRisingIn n xs → count n (mem xs) ≡ length xs
count_mem_length n xs r = count_mem 1 n xs (omega arith) (rises-from_set n xs r)

-- each member of a set of numbers 1 to n is one of them
pub mem-within : (n : ℕ) (xs : List ℕ) → IsRisingIn n xs → (v : ℕ) → mem xs v ≡ true → Within n v
mem-within n xs r v h = within 1 n xs (omega arith) (rises-from_set n xs r) v h
  where
    within : (low n : ℕ) (xs : List ℕ) → 1 ≤ low → Rises low n xs → (v : ℕ) → mem xs v ≡ true → Within n v
    within low n [] l r v h = absurd (true≢false (sym h))
    within low n (x ∷ xs) l r v h = elim (or_cases (x == v) (mem xs v) h) [
      | inl e ↦ let q = eqb-true x v e in let a = r.0 in let b = r.1 in (omega arith, omega arith)
      | inr e ↦ let a = r.0 in within (x + 1) n xs (omega arith) r.2 v e
    ]

-- a set of numbers 1 to n as a list that is not empty has a member
pub member-of_set : (n : ℕ) (xs : List ℕ) → IsRisingIn n xs → 0 < length xs → (v : ℕ) × Within n v × (mem xs v ≡ true)
member-of_set n [] r h = absurd (omega arith)
member-of_set n (x ∷ xs) r h = let own : mem (x ∷ xs) x ≡ true = rw (eq-eqb x x refl) refl in (x, mem-within n (x ∷ xs) r x own, own)

-- a list with a member is not empty
pub some-member : (xs : List ℕ) (v : ℕ) → mem xs v ≡ true → 0 < length xs
some-member [] v h = absurd (both_ways false refl h)
some-member (x ∷ xs) v h = omega arith

-- a number that is counted in a list is in it
pub times_mem : (xs : List ℕ) (v : ℕ) → 1 ≤ times xs v → mem xs v ≡ true
times_mem [] v h = absurd (omega arith)
times_mem (x ∷ xs) v h = elim (cases_Bool (x == v)) [
  | inl a ↦ or_left (x == v) (mem xs v) a
  | inr a ↦ or_right (x == v) (mem xs v) (times_mem xs v (let b = ap bit a in omega arith))
]
