-- Sizes of sets given as increasing lists, after a number comes or goes, and of two sets' union,
-- common part and difference: each length is the count of a test, and the counts add up number by
-- number.
use Rattle.std.proofs.Common.{◌≡◌, ℕ, ◌+◌, ◌≤◌, Bool, true, false, List, length, refl, sym, ◌∙◌, arith}
use Rattle.counting.proofs.Counts.{count_le, count_more, count_of_one}
use Rattle.counting.proofs.Lists.{count_mem_length}
use Rattle.counting.proofs.RisingLists.{all_in_true, same_rising_list}
use Rattle.counting.proofs.Totals.{total_add, total_congr, total_le}
use Rattle.counting.specs.Common.{Within, bit, count, IsRisingIn, is_subset, mem, Set, meet, minus, singleton}
use Rattle.counting.proofs.Booleans.{bit_le, bit_parted}

-- a smaller test counts fewer
pub count_mono : (n : ℕ) (x y : Set) → ((v : ℕ) → Within n v → x v ≡ true → y v ≡ true) → count n x ≤ count n y
count_mono n x y h = total_le n _ _ (λ v w. bit_le (x v) (y v) (h v w))

-- x splits at y
pub count_split : (n : ℕ) (x y : Set) → count n x ≡ count n (meet x y) + count n (minus x y)
count_split n x y = total_congr n _ _ (λ v w. bit_parted (x v) (y v)) ∙ total_add n (λ v. bit (meet x y v)) (λ v. bit (minus x y v))

-- v is counted once
pub count_singleton : (n v : ℕ) → Within n v → count n (singleton v) ≡ 1
count_singleton n v w = count_of_one n (λ u. true) v w

-- a subset with as many numbers is the set
pub same_set-from_size : (n : ℕ) (xs ys : List ℕ) → IsRisingIn n xs → IsRisingIn n ys → is_subset xs ys ≡ true → length ys ≤ length xs → xs ≡ ys
same_set-from_size n xs ys r s h l = same_rising_list n xs ys r s (λ v w. decide v w (mem xs v) (mem ys v) refl refl)
  where
    decide : (v : ℕ) → Within n v → (a b : Bool) → mem xs v ≡ a → mem ys v ≡ b → a ≡ b
    decide v w true true e f = refl
    decide v w true false e f = sym (all_in_true xs (mem ys) h v e) ∙ f
    decide v w false false e f = refl
    decide v w false true e f = let more = count_more n (mem xs) (mem ys) (all_in_true xs (mem ys) h) v w e f in absurd (omega (arith, count_mem_length n xs r, count_mem_length n ys s))

-- at most n numbers
pub length-within : (n : ℕ) (xs : List ℕ) → IsRisingIn n xs → length xs ≤ n
length-within n xs r = omega (arith, count_mem_length n xs r, count_le n (mem xs))
