-- Shores in a tree over 1 to n. A rising list lies below n exactly when its greatest number does;
-- the complement of a shore below n holds n, so it is not empty.
use Rattle.graph_core.proofs.from_counting.Common.{◌≡◌, ◌↔◌, ℕ, ◌-◌, ◌≤◌, ◌<◌, List, [], ◌∷◌, length, true, false, not, ◌&&◌, IsTrue, nat_lt, All, arith, sym, ◌∙◌, ap, and_parts, nat_tests, mem-within, mem-item, mem-all, last_is_greatest, last-greatest, mem-outside, same_rising_list, set-narrower, Within, everything, mem, rising_list, IsRisingIn, IsGreatestOf}
use Rattle.graph_core.proofs.Common.{complement_of, complement_of-rises, mem-complement_of}

pub below-greatest : (m n v : ℕ) (xs : List ℕ) → IsRisingIn m xs → IsGreatestOf xs v → IsTrue (nat_lt v n) ↔ All (Within (n - 1)) xs
below-greatest m n v xs rises greatest = grind (arith, last_is_greatest m xs rises, mem-item xs, last-greatest m v xs rises greatest, nat_tests, mem-within (n - 1) xs)

-- the complement, whose numbers are those of 1 to n outside the shore
pub is-complement : (m n k : ℕ) (full xs ys : List ℕ) → n ≤ m → k ≡ n → full ≡ rising_list k everything → IsRisingIn m ys → ((v : ℕ) → mem ys v ≡ (mem full v && not (mem xs v))) → ys ≡ complement_of n xs
is-complement m n k full xs ys few same is_k rises tells =
    let is = is_k ∙ ap (λ j. rising_list j everything) same in
    let inside : (v : ℕ) → mem ys v ≡ true → Within n v = λ v holds. (mem-all n v).0 (ap (λ (zs : List ℕ). mem zs v) (sym is) ∙ (and_parts (mem full v) _ (sym (tells v) ∙ holds)).0) in
    grind (arith, same_rising_list n ys (complement_of n xs), set-narrower m n ys rises, complement_of-rises n xs, mem-all n, mem-complement_of n xs)

-- the complement of a shore below n holds n
pub complement-nonempty : (n : ℕ) (xs : List ℕ) → IsRisingIn n xs → 0 < length xs → All (Within (n - 1)) xs → 0 < length (complement_of n xs)
complement-nonempty n [] rises some all = omega arith
complement-nonempty n (x ∷ xs) rises some all =
    let first = all 0 0 some in
    let there : Within n n = (omega arith, omega arith) in
    let none = not_below n (x ∷ xs) rises all in
    let held = mem-complement_of n (x ∷ xs) n there ∙ ap not none in
    some_member (complement_of n (x ∷ xs)) n held
  where
    not_below : (n : ℕ) (xs : List ℕ) → IsRisingIn n xs → All (Within (n - 1)) xs → mem xs n ≡ false
    not_below n xs rises all = mem-outside (n - 1) xs (record { rising = rises.rising; within = all }) n (λ w. omega (arith, w))

    some_member : (xs : List ℕ) (v : ℕ) → mem xs v ≡ true → 0 < length xs
    some_member [] v held = grind arith
    some_member (x ∷ xs) v held = omega arith

-- a rising list within 1 to n that has not n lies below n
pub below-without_greatest : (n : ℕ) (xs : List ℕ) → IsRisingIn n xs → mem xs n ≡ false → All (Within (n - 1)) xs
below-without_greatest n xs rises without k d less = grind (arith, mem-item xs k d less)
  where
    below : (v : ℕ) → Within n v → mem xs v ≡ true → Within (n - 1) v
    below v within held = grind arith
