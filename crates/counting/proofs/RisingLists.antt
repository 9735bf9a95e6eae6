-- Increasing lists of numbers 1 to n and their tests: the list is fixed by its test, the test by
-- the list, and the length is the count. A list is read from its first item on, and `rising_list`
-- is made from its last item on; `Rises` joins the two.
use Rattle.std.proofs.Common.{◌≡◌, ℕ, ◌+◌, ◌≤◌, ◌<◌, Bool, true, false, ◌==◌, ◌||◌, ◌&&◌, not, List, [], ◌∷◌, length, ◌↔◌, refl, sym, ap, ap₂, ◌∙◌, arith, inl, inr, eq-eqb, ne_eqb, cond, subst, suc, zero, ◌++◌, eqb-true, slice_index, slice_index_or, All}
use Rattle.std.specs.List.Sorted.{IsStrictlyIncreasing}
use Rattle.std.proofs.lemmas.Bool.{both_ways, cases_eq, cases_lt, cases_order, or_cases, false_from_ne_true, and_parts, and_from, or_left, or_right}
use Rattle.counting.proofs.Counts.{count_congr}
use Rattle.counting.proofs.Lists.{Rises, count_mem_length, mem-within, mem_low, rises-from_set, rising_holds, rising_only, same_list}
use Rattle.counting.specs.Common.{Within, count, IsGreatestOf, IsLeastOf, IsRisingIn, all_in, last_of, mem, rising_list, Set, everything}
use Rattle.counting.proofs.Booleans.{and_true, same_tests}

-- a number of the list is at least its lowest bound
rises_first : (low n : ℕ) (xs : List ℕ) → Rises low n xs → 0 < length xs → low ≤ slice_index_or xs 0 0
rises_first low n [] r h = absurd (omega arith)
rises_first low n (x ∷ xs) r h = r.0

-- each number is less than the next
increasing-from_rises : (low n : ℕ) (xs : List ℕ) → Rises low n xs → IsStrictlyIncreasing xs
increasing-from_rises low n [] r k h = absurd (omega arith)
increasing-from_rises low n (x ∷ xs) r zero h = let a = rises_first (x + 1) n xs r.2 (omega arith) in omega (arith, a)
increasing-from_rises low n (x ∷ xs) r (suc k) h =
    let e : suc k + 1 ≡ suc (k + 1) = omega arith in
    subst (λ j. slice_index xs k < slice_index (x ∷ xs) j) (sym e) (increasing-from_rises (x + 1) n xs r.2 k (omega arith))

-- and all lie within the bounds
within-from_rises : (low n : ℕ) (xs : List ℕ) → 1 ≤ low → Rises low n xs → All (Within n) xs
within-from_rises low n [] l r k d h = absurd (omega arith)
within-from_rises low n (x ∷ xs) l r zero d h = let a = r.0 in let b = r.1 in (omega arith, omega arith)
within-from_rises low n (x ∷ xs) l r (suc k) d h = let a = r.0 in within-from_rises (x + 1) n xs (omega arith) r.2 k d (omega arith)

-- an increasing list from 1 on is a set of numbers 1 to n
pub set-from_rises : (n : ℕ) (xs : List ℕ) → Rises 1 n xs → IsRisingIn n xs
set-from_rises n xs r = record { rising = increasing-from_rises 1 n xs r; within = within-from_rises 1 n xs (omega arith) r }

-- a wider bound
pub rises-wider : (low n m : ℕ) (xs : List ℕ) → n ≤ m → Rises low n xs → Rises low m xs
rises-wider low n m [] l r = tt
rises-wider low n m (x ∷ xs) l r = let b = r.1 in (r.0, omega arith, rises-wider (x + 1) n m xs l r.2)

-- the next number at the end
rises-append : (low n : ℕ) (xs : List ℕ) → low ≤ suc n → Rises low n xs → Rises low (suc n) (xs ++ suc n ∷ [])
rises-append low n [] l r = (l, omega arith, tt)
rises-append low n (x ∷ xs) l r = let b = r.1 in (r.0, omega arith, rises-append (x + 1) n xs (omega arith) r.2)

append_none : (xs : List ℕ) → xs ++ [] ≡ xs
append_none [] = refl
append_none (x ∷ xs) = ap (λ ys. x ∷ ys) (append_none xs)

rises-rising_list : (n : ℕ) (x : Set) → Rises 1 n (rising_list n x)
rises-rising_list zero x = tt
rises-rising_list (suc n) x = step (rises-rising_list n x) (x (suc n))
  where
    step : Rises 1 n (rising_list n x) → (b : Bool) → Rises 1 (suc n) (rising_list n x ++ cond b (suc n ∷ []) [])
    step before true = rises-append 1 n (rising_list n x) (omega arith) before
    step before false = subst (Rises 1 (suc n)) (sym (append_none (rising_list n x))) (rises-wider 1 n (suc n) (rising_list n x) (omega arith) before)

-- the list of a test is a set of numbers 1 to n
pub rising_list-rises : (n : ℕ) (x : Set) → IsRisingIn n (rising_list n x)
rising_list-rises n x = set-from_rises n (rising_list n x) (rises-rising_list n x)

-- within 1 to n the list of a test has its numbers
pub mem-rising_list : (n : ℕ) (x : Set) (v : ℕ) → Within n v → mem (rising_list n x) v ≡ x v
mem-rising_list n x v w = same_tests (mem (rising_list n x) v) (x v) (λ h. (rising_only n x v h).1) (rising_holds n x v w)

-- past 1 to n it has nothing
pub mem-outside : (n : ℕ) (xs : List ℕ) → IsRisingIn n xs → (v : ℕ) → (Within n v → ⊥) → mem xs v ≡ false
mem-outside n xs r v h = false_from_ne_true (mem xs v) (λ m. h (mem-within n xs r v m))

-- two sets as lists with the same numbers of 1 to n are equal
pub same_rising_list : (n : ℕ) (xs ys : List ℕ) → IsRisingIn n xs → IsRisingIn n ys → ((v : ℕ) → Within n v → mem xs v ≡ mem ys v) → xs ≡ ys
same_rising_list n xs ys r s h =
    same_list 1 n xs ys (rises-from_set n xs r) (rises-from_set n ys s) (λ v. same_tests (mem xs v) (mem ys v) (λ m. sym (h v (mem-within n xs r v m)) ∙ m) (λ m. h v (mem-within n ys s v m) ∙ m))

-- a set as a list is the list of its own test
pub rising_list-mem : (n : ℕ) (xs : List ℕ) → IsRisingIn n xs → rising_list n (mem xs) ≡ xs
rising_list-mem n xs r = same_rising_list n (rising_list n (mem xs)) xs (rising_list-rises n (mem xs)) r (mem-rising_list n (mem xs))

-- the list of a test is as long as the test counts
pub length-rising_list : (n : ℕ) (x : Set) → length (rising_list n x) ≡ count n x
length-rising_list n x = sym (count_mem_length n (rising_list n x) (rising_list-rises n x)) ∙ count_congr n (mem (rising_list n x)) x (mem-rising_list n x)

-- tests that agree on 1 to n have one list
pub rising_list-congr : (n : ℕ) (x y : Set) → ((v : ℕ) → Within n v → x v ≡ y v) → rising_list n x ≡ rising_list n y
rising_list-congr zero x y h = refl
rising_list-congr (suc n) x y h = ap₂ (λ xs b. xs ++ cond b (suc n ∷ []) []) (rising_list-congr n x y (λ v w. h v (omega arith))) (h (suc n) (omega arith))

-- the first number is the least
pub first_is_least : (n x : ℕ) (xs : List ℕ) → IsRisingIn n (x ∷ xs) → (v : ℕ) → mem (x ∷ xs) v ≡ true → x ≤ v
first_is_least n x xs r v m = elim (or_cases (x == v) (mem xs v) m) [
  | inl e ↦ let d = eqb-true x v e in omega arith
  | inr t ↦ elim (cases_lt v x) [
    | inl l ↦ absurd (both_ways (mem xs v) (mem_low (x + 1) n xs (rises-from_set n (x ∷ xs) r).2 v (omega arith)) t)
    | inr g ↦ g
  ]
]

-- what is left after the first number is a set too, all of it above the first
pub rising-tail : (n x : ℕ) (xs : List ℕ) → IsRisingIn n (x ∷ xs) → IsRisingIn n xs
rising-tail n x xs r = record {
  rising = λ k h. let e : suc k + 1 ≡ suc (k + 1) = omega arith in subst (λ j. slice_index xs k < slice_index (x ∷ xs) j) e (r.rising (suc k) (omega arith));
  within = λ k d h. r.within (suc k) d (omega arith);
}

pub above_first : (n x : ℕ) (xs : List ℕ) → IsRisingIn n (x ∷ xs) → (v : ℕ) → mem xs v ≡ true → x < v
above_first n x xs r v t = elim (cases_lt x v) [
  | inl l ↦ l
  | inr g ↦ absurd (both_ways (mem xs v) (mem_low (x + 1) n xs (rises-from_set n (x ∷ xs) r).2 v (omega arith)) t)
]

-- the last number is one of the list
pub mem-last_of : (x : ℕ) (xs : List ℕ) → mem (x ∷ xs) (last_of (x ∷ xs)) ≡ true
mem-last_of x [] = or_left (x == x) false (eq-eqb x x refl)
mem-last_of x (y ∷ xs) = or_right (x == last_of (y ∷ xs)) (mem (y ∷ xs) (last_of (y ∷ xs))) (mem-last_of y xs)

-- and the greatest
pub last_is_greatest : (n : ℕ) (xs : List ℕ) → IsRisingIn n xs → (v : ℕ) → mem xs v ≡ true → v ≤ last_of xs
last_is_greatest n [] r v m = absurd (both_ways false refl m)
last_is_greatest n (x ∷ []) r v m = grind (arith, or_cases, eqb-true, both_ways)
last_is_greatest n (x ∷ y ∷ xs) r v m = elim (or_cases (x == v) (mem (y ∷ xs) v) m) [
  | inl e ↦ let d = eqb-true x v e in let a = above_first n x (y ∷ xs) r (last_of (y ∷ xs)) (mem-last_of y xs) in omega arith
  | inr t ↦ last_is_greatest n (y ∷ xs) (rising-tail n x (y ∷ xs) r) v t
]

-- all numbers of the list are in x
pub all_in_true : (xs : List ℕ) (x : Set) → all_in xs x ≡ true → (v : ℕ) → mem xs v ≡ true → x v ≡ true
all_in_true [] x h v m = absurd (both_ways false refl m)
all_in_true (y ∷ xs) x h v m = let p = and_parts (x y) (all_in xs x) h in elim (or_cases (y == v) (mem xs v) m) [
  | inl e ↦ ap x (sym (eqb-true y v e)) ∙ p.0
  | inr t ↦ all_in_true xs x p.1 v t
]

pub true_all_in : (xs : List ℕ) (x : Set) → ((v : ℕ) → mem xs v ≡ true → x v ≡ true) → all_in xs x ≡ true
true_all_in [] x h = refl
true_all_in (y ∷ xs) x h = and_from (x y) (all_in xs x) (h y (or_left (y == y) (mem xs y) (eq-eqb y y refl))) (true_all_in xs x (λ v m. h v (or_right (y == v) (mem xs v) m)))

-- a number of the list that is not in x shows that not all are
pub all_in_false : (xs : List ℕ) (x : Set) (v : ℕ) → mem xs v ≡ true → x v ≡ false → all_in xs x ≡ false
all_in_false xs x v m f = false_from_ne_true (all_in xs x) (λ h. both_ways (x v) f (all_in_true xs x h v m))

-- the empty set, and the set of one number
pub set-none : (n : ℕ) → IsRisingIn n []
set-none n = set-from_rises n [] tt

pub set-one : (n v : ℕ) → Within n v → IsRisingIn n (v ∷ [])
set-one n v w = set-from_rises n (v ∷ []) (w.0, w.1, tt)

-- a list with no number is empty
pub no_members : (xs : List ℕ) → ((v : ℕ) → mem xs v ≡ false) → xs ≡ []
no_members [] h = refl
no_members (x ∷ xs) h = absurd (both_ways (mem (x ∷ xs) x) (h x) (or_left (x == x) (mem xs x) (eq-eqb x x refl)))

-- a set is its least number before the others
pub split_least : (n : ℕ) (xs ys : List ℕ) (v : ℕ) → IsRisingIn n xs → IsRisingIn n ys → mem xs v ≡ true → ((w : ℕ) → w < v → mem xs w ≡ false) → ((w : ℕ) → mem ys w ≡ (mem xs w && not (v == w))) → xs ≡ v ∷ ys
split_least n xs ys v r s m least others = same_rising_list n xs (v ∷ ys) r whole (λ w _. same (mem xs w) (mem ys w) w refl (others w))
  where
    above : (zs : List ℕ) → Rises 1 n zs → ((w : ℕ) → mem zs w ≡ true → v < w) → Rises (v + 1) n zs
    above [] q h = tt
    above (z ∷ zs) q h = let a = h z (or_left (z == z) (mem zs z) (eq-eqb z z refl)) in (omega arith, q.1, q.2)

    rest_above : (w : ℕ) → mem ys w ≡ true → v < w
    rest_above w t = let p = and_parts (mem xs w) (not (v == w)) (sym (others w) ∙ t) in elim (cases_order v w) [
      | inl e ↦ absurd (both_ways (not (v == w)) (rw (eq-eqb v w e) refl) p.1)
      | inr d ↦ elim d [ inl l ↦ l | inr l ↦ absurd (both_ways (mem xs w) (least w l) p.0) ]
    ]

    whole : IsRisingIn n (v ∷ ys)
    whole = let w = mem-within n xs r v m in set-from_rises n (v ∷ ys) (w.0, w.1, above ys (rises-from_set n ys s) rest_above)

    same : (a b : Bool) (w : ℕ) → mem xs w ≡ a → b ≡ (mem xs w && not (v == w)) → a ≡ ((v == w) || b)
    same a b w e f = elim (cases_eq v w) [
      | inl q ↦ rw (eq-eqb v w q) (sym e ∙ ap (mem xs) (sym q) ∙ m)
      | inr d ↦ let g = ne_eqb v w d in rw g (sym (f ∙ rw (g, e) (and_true a)))
    ]

-- where not all are in x, one is outside
pub false_all_in : (xs : List ℕ) (x : Set) → all_in xs x ≡ false → (v : ℕ) × (mem xs v ≡ true) × (x v ≡ false)
false_all_in [] x h = absurd (both_ways true h refl)
false_all_in (y ∷ xs) x h = step (λ f. false_all_in xs x f) (x y) refl h
  where
    step : (all_in xs x ≡ false → (v : ℕ) × (mem xs v ≡ true) × (x v ≡ false)) → (b : Bool) → x y ≡ b → (b && all_in xs x) ≡ false → (v : ℕ) × ((y == v || mem xs v) ≡ true) × (x v ≡ false)
    step found true e f = let r = found f in (r.0, or_right (y == r.0) (mem xs r.0) r.1, r.2)
    step found false e f = (y, or_left (y == y) (mem xs y) (eq-eqb y y refl), e)

-- a set of numbers 1 to n is one of numbers 1 to m
pub set-wider : (n m : ℕ) (xs : List ℕ) → n ≤ m → IsRisingIn n xs → IsRisingIn m xs
set-wider n m xs l r = set-from_rises m xs (rises-wider 1 n m xs l (rises-from_set n xs r))

-- the list of all numbers 1 to n has just those
pub mem-all : (n v : ℕ) → (mem (rising_list n everything) v ≡ true) ↔ Within n v
mem-all n v = (mem-within n (rising_list n everything) (rising_list-rises n everything) v, λ w. mem-rising_list n everything v w)

-- each item of a list is a number of it
pub mem-item : (xs : List ℕ) (k d : ℕ) → k < length xs → mem xs (slice_index_or xs k d) ≡ true
mem-item [] k d h = absurd (omega arith)
mem-item (x ∷ xs) zero d h = or_left (x == x) (mem xs x) (eq-eqb x x refl)
mem-item (x ∷ xs) (suc k) d h = or_right (x == slice_index_or xs k d) (mem xs (slice_index_or xs k d)) (mem-item xs k d (omega arith))

-- a set is the list of each test that agrees with it
pub list-from_test : (n : ℕ) (xs : List ℕ) (x : Set) → IsRisingIn n xs → ((v : ℕ) → Within n v → mem xs v ≡ x v) → xs ≡ rising_list n x
list-from_test n xs x r h = same_rising_list n xs (rising_list n x) r (rising_list-rises n x) (λ v w. h v w ∙ sym (mem-rising_list n x v w))

-- a set of numbers 1 to m, all at most n, is one of numbers 1 to n
pub set-narrower : (m n : ℕ) (xs : List ℕ) → IsRisingIn m xs → ((v : ℕ) → mem xs v ≡ true → v ≤ n) → IsRisingIn n xs
set-narrower m n xs r h = set-from_rises n xs (go 1 xs (rises-from_set m xs r) h)
  where
    go : (low : ℕ) (ys : List ℕ) → Rises low m ys → ((v : ℕ) → mem ys v ≡ true → v ≤ n) → Rises low n ys
    go low [] s k = tt
    go low (y ∷ ys) s k = (s.0, k y (or_left (y == y) (mem ys y) (eq-eqb y y refl)), go (y + 1) ys s.2 (λ v t. k v (or_right (y == v) (mem ys v) t)))

-- a part of a set of numbers 1 to n
pub set-part : (m n : ℕ) (xs ys : List ℕ) → IsRisingIn m xs → IsRisingIn n ys → ((v : ℕ) → mem xs v ≡ true → mem ys v ≡ true) → IsRisingIn n xs
set-part m n xs ys r s h = set-narrower m n xs r (λ v t. (mem-within n ys s v (h v t)).1)

-- the least number is the first
pub first-least : (n x v : ℕ) (xs : List ℕ) → IsRisingIn n (x ∷ xs) → IsLeastOf (x ∷ xs) v → x ≡ v
first-least n x v xs r least = elim (cases_lt x v) [
  | inl l ↦ absurd (both_ways (mem (x ∷ xs) x) (least.before x l) (or_left (x == x) (mem xs x) (eq-eqb x x refl)))
  | inr g ↦ let l = first_is_least n x xs r v least.member in omega arith
]

-- the greatest number is the last
pub last-greatest : (n v : ℕ) (xs : List ℕ) → IsRisingIn n xs → IsGreatestOf xs v → last_of xs ≡ v
last-greatest n v [] r greatest = absurd (both_ways false refl greatest.member)
last-greatest n v (x ∷ xs) r greatest = elim (cases_lt v (last_of (x ∷ xs))) [
  | inl l ↦ absurd (both_ways (mem (x ∷ xs) (last_of (x ∷ xs))) (greatest.after (last_of (x ∷ xs)) l) (mem-last_of x xs))
  | inr g ↦ let l = last_is_greatest n (x ∷ xs) r v greatest.member in omega arith
]
