-- Sets of vertices 1 to n as the lists of their tests: unions, differences and complements, also
-- where n is greater than any vertex that a set can hold.
use Rattle.graph_core.proofs.from_counting.Common.{◌≡◌, ℕ, ◌-◌, ◌≤◌, ◌<◌, Bool, true, false, not, ◌&&◌, ◌||◌, List, [], ◌∷◌, All, min, refl, sym, ap, ◌∙◌, arith, ◌⊎◌, get_or, suc, ◌==◌, same_tests, and_from, and_parts, both_ways, or_cases, mem-within, all_in_false, all_in_true, list-from_test, mem-all, mem-item, mem-outside, set-narrower, true_all_in, Within, IsRisingIn, is_subset, mem, rising_list, Set, everything, minus, union}
use Rattle.graph_core.proofs.Common.{complement_of-rises, mem-complement_of, complement_of}
use Rattle.tree_core.proofs.Shores.{is-complement}
use Rattle.tree_core.specs.Common.{is_proper, minus_list, outer_rest, union_list}

-- what holds of all items holds of each number of the list
pub each-member : (P : ℕ → Type 0) (xs : List ℕ) → All P xs → (v : ℕ) → mem xs v ≡ true → P v
each-member P [] all v m = absurd (both_ways false refl m)
each-member P (x ∷ xs) all v m = go (each-member P xs (λ k d l. all (suc k) d (omega arith))) (or_cases (x == v) (mem xs v) m)
  where
    go : ((v : ℕ) → mem xs v ≡ true → P v) → ((x == v) ≡ true) ⊎ (mem xs v ≡ true) → P v
    go rest h = grind arith

-- numbers below n are numbers up to n
pub all_wider : (n : ℕ) (xs : List ℕ) → All (Within (n - 1)) xs → All (Within n) xs
all_wider n xs all k d l = let w = all k d l in (omega arith, omega arith)

-- a set of numbers 1 to n is the list of its test
pub list-of : (n : ℕ) (r : List ℕ) (x : Set) → IsRisingIn 128 r → ((v : ℕ) → mem r v ≡ x v) → ((v : ℕ) → mem r v ≡ true → v ≤ n) → r ≡ rising_list n x
list-of n r x rises tells low = list-from_test n r x (set-narrower 128 n r rises low) (λ v w. tells v)

all-of : (n : ℕ) (r : List ℕ) → IsRisingIn 128 r → ((v : ℕ) → mem r v ≡ true → v ≤ n) → All (Within n) r
all-of n r rises low = (set-narrower 128 n r rises low).within

union_low : (n : ℕ) (x y r : List ℕ) → All (Within n) x → All (Within n) y → ((v : ℕ) → mem r v ≡ (mem x v || mem y v)) → (v : ℕ) → mem r v ≡ true → v ≤ n
union_low n x y r ax ay tells v m = grind (arith, or_cases (mem x v) (mem y v) (sym (tells v) ∙ m), each-member (Within n) x ax v, each-member (Within n) y ay v)

pub union-is : (n : ℕ) (x y r : List ℕ) → IsRisingIn 128 r → All (Within n) x → All (Within n) y → ((v : ℕ) → mem r v ≡ (mem x v || mem y v)) → r ≡ union_list n x y
union-is n x y r rises ax ay tells = list-of n r (union (mem x) (mem y)) rises tells (union_low n x y r ax ay tells)

pub union-within : (n : ℕ) (x y r : List ℕ) → IsRisingIn 128 r → All (Within n) x → All (Within n) y → ((v : ℕ) → mem r v ≡ (mem x v || mem y v)) → All (Within n) r
union-within n x y r rises ax ay tells = all-of n r rises (union_low n x y r ax ay tells)

minus_low : (n : ℕ) (x y r : List ℕ) → All (Within n) x → ((v : ℕ) → mem r v ≡ (mem x v && not (mem y v))) → (v : ℕ) → mem r v ≡ true → v ≤ n
minus_low n x y r ax tells v m = (each-member (Within n) x ax v (and_parts (mem x v) (not (mem y v)) (sym (tells v) ∙ m)).0).1

pub minus-is : (n : ℕ) (x y r : List ℕ) → IsRisingIn 128 r → All (Within n) x → ((v : ℕ) → mem r v ≡ (mem x v && not (mem y v))) → r ≡ minus_list n x y
minus-is n x y r rises ax tells = list-of n r (minus (mem x) (mem y)) rises tells (minus_low n x y r ax tells)

pub minus-within : (n : ℕ) (x y r : List ℕ) → IsRisingIn 128 r → All (Within n) x → ((v : ℕ) → mem r v ≡ (mem x v && not (mem y v))) → All (Within n) r
minus-within n x y r rises ax tells = all-of n r rises (minus_low n x y r ax tells)

-- a number past the last one that a set can hold is in no set
pub mem-past : (v : List ℕ) (n : ℕ) → IsRisingIn 128 v → (Within 128 n → ⊥) → mem v n ≡ false
mem-past v n rises h = mem-outside 128 v rises n h

-- the part of the complement that a set can hold
abbrev pub IsOutside : ℕ → (x r : List ℕ) → Type 0
IsOutside n x r = (w : ℕ) → mem r w ≡ (mem (rising_list (min n 128) everything) w && not (mem x w))

outside_in : (n : ℕ) (x r : List ℕ) → IsOutside n x r → (w : ℕ) → mem r w ≡ true → mem (complement_of n x) w ≡ true
outside_in n x r tells w m = grind (arith, and_parts (mem (rising_list (min n 128) everything) w) (not (mem x w)) (sym (tells w) ∙ m), mem-all (min n 128) w, mem-complement_of n x w)

in_outside : (n : ℕ) (x r : List ℕ) → IsOutside n x r → (w : ℕ) → w ≤ 128 → mem (complement_of n x) w ≡ true → mem r w ≡ true
in_outside n x r tells w small m =
    let z = mem-within n (complement_of n x) (complement_of-rises n x) w m in
    tells w ∙ and_from (mem (rising_list (min n 128) everything) w) (not (mem x w)) ((mem-all (min n 128) w).1 (omega arith, omega arith)) (sym (mem-complement_of n x w z) ∙ m)

pub outside-test : (n : ℕ) (v x r : List ℕ) → IsRisingIn 128 v → IsOutside n x r → is_subset v r ≡ is_subset v (complement_of n x)
outside-test n v x r rises tells = same_tests (is_subset v r) (is_subset v (complement_of n x))
    (λ h. true_all_in v (mem (complement_of n x)) (λ w m. outside_in n x r tells w (all_in_true v (mem r) h w m)))
    (λ h. true_all_in v (mem r) (λ w m. let z = mem-within 128 v rises w m in in_outside n x r tells w z.1 (all_in_true v (mem (complement_of n x)) h w m)))

-- the complement has a number that no set holds
pub not-covered : (n : ℕ) (v x : List ℕ) → IsRisingIn 128 v → All (Within (n - 1)) x → 128 < n → is_subset (complement_of n x) v ≡ false
not-covered n v x rises below large = grind (arith, all_in_false (complement_of n x) (mem v) n, mem-complement_of n x n, out (mem x n) refl, mem-past v n rises)
  where
    out : (b : Bool) → mem x n ≡ b → mem x n ≡ false
    out false h = h
    out true h = let w = each-member (Within (n - 1)) x below n h in absurd (omega arith)

pub outside-is : (n : ℕ) (x r : List ℕ) → IsRisingIn 128 r → n ≤ 128 → IsOutside n x r → r ≡ complement_of n x
outside-is n x r rises small tells = is-complement 128 n (min n 128) (rising_list (min n 128) everything) x r small (omega arith) refl rises tells

-- what of the complement is not in v
rest_tells : (n : ℕ) (x v o r : List ℕ) → IsOutside n x o → n ≤ 128 → ((w : ℕ) → mem r w ≡ (mem o w && not (mem v w))) → IsRisingIn 128 o → (w : ℕ) → mem r w ≡ (mem (complement_of n x) w && not (mem v w))
rest_tells n x v o r tells small is ro w = is w ∙ ap (λ (z : List ℕ). mem z w && not (mem v w)) (outside-is n x o ro small tells)

pub outer_rest-is : (n : ℕ) (x v o r : List ℕ) → IsRisingIn 128 v → mem v n ≡ true → IsRisingIn 128 o → IsOutside n x o → IsRisingIn 128 r → ((w : ℕ) → mem r w ≡ (mem o w && not (mem v w))) → r ≡ outer_rest n x v
outer_rest-is n x v o r rv h ro tells rr is = grind (arith, mem-within 128 v rv n h, complement_of-rises n x, minus-is n (complement_of n x) v r rr, rest_tells n x v o r tells)

pub outer_rest-within : (n : ℕ) (x v o r : List ℕ) → IsRisingIn 128 v → mem v n ≡ true → IsRisingIn 128 o → IsOutside n x o → IsRisingIn 128 r → ((w : ℕ) → mem r w ≡ (mem o w && not (mem v w))) → All (Within n) r
outer_rest-within n x v o r rv h ro tells rr is = grind (arith, mem-within 128 v rv n h, complement_of-rises n x, minus-within n (complement_of n x) v r rr, rest_tells n x v o r tells)

-- a nonempty proper subset has no other numbers
pub proper-within : (n : ℕ) (u x : List ℕ) → is_proper u x ≡ true → ((v : ℕ) → mem x v ≡ true → Within n v) → All (Within n) u
proper-within n u x h low k d l =
    let parts = and_parts (not (is_subset u [])) (is_subset u x) (and_parts (not (is_subset u []) && is_subset u x) (not (is_subset x u)) h).0 in
    low (get_or u k d) (all_in_true u (mem x) parts.1 (get_or u k d) (mem-item u k d l))

pub proper_part-within : (n : ℕ) (u x : List ℕ) → is_proper u x ≡ true → All (Within (n - 1)) x → All (Within n) u
proper_part-within n u x h all = proper-within n u x h (each-member (Within n) x (all_wider n x all))

pub proper_outside-within : (n : ℕ) (v x : List ℕ) → is_proper v (complement_of n x) ≡ true → All (Within n) v
proper_outside-within n v x h = proper-within n v (complement_of n x) h (mem-within n (complement_of n x) (complement_of-rises n x))
