-- The least and the greatest member, and the least above a number, by the places of ones in the
-- word: a one with zeros before it, a one with nothing above it, and the lowest one after a
-- shift. The word of all numbers 1 to n has ones below n.
use Rattle.counting.proofs.Common.{◌≡◌, ℕ, zero, suc, ◌+◌, ◌-◌, ◌*◌, ◌/◌, ◌%◌, ◌^◌, ◌≤◌, ◌<◌, List, [], ◌↔◌, refl, sym, ◌∙◌, ap, arith, true, false, subst, inl, inr, pow_pos, shr-shr, bit_at, w128, trailing_zeros, mod_below, pow_below, shr_le, shr_split, bit_at-trailing_zeros, bit_at_above, bit_at_ones, bit_at_ones_above, ones_shr, cases_lt, mem-all, mem-outside, mem-rising_list, rising_list-rises, same_rising_list, set-wider, Within, IsNextAfter, mem, rising_list, everything}
use Rattle.vset_core.specs.Words.{in_word, members}
use Rattle.vset_core.specs.WordLaws.{members-rise, mem-members}
use Rattle.vset_core.proofs.Words.{members-zero, seen}

-- a bit that is 0 is not a member
pub no_bit : (word v : ℕ) → ((i : ℕ) → v ≡ suc i → bit_at word i ≡ 0) → in_word word v ≡ false
no_bit word v h = grind arith

-- a one is a member
pub one_bit : (word i : ℕ) → bit_at word i ≡ 1 → in_word word (i + 1) ≡ true
one_bit word i h = let e : i + 1 ≡ suc i = omega arith in rw (e, h) refl

-- the empty set, by its word
pub empty_word : (word : ℕ) (set : List ℕ) → members word ≡ set → word ≡ 0 → set ≡ []
empty_word word set is e = sym is ∙ ap members e ∙ members-zero

-- the lowest one above v
pub next_bit : (word : ℕ) (set : List ℕ) (v : ℕ) → members word ≡ set → word < 2 ^ 128 → v < 128 → 0 < word / 2 ^ v → IsNextAfter set v (v + trailing_zeros w128 (word / 2 ^ v) + 1) × Within 128 (v + trailing_zeros w128 (word / 2 ^ v) + 1)
next_bit word set v is fits inside some =
    let low = bit_at-trailing_zeros w128 (word / 2 ^ v) some shifted_fits in (
      record {
        member = seen word set is fits (v + trailing_zeros w128 (word / 2 ^ v) + 1) ∙ one_bit word (v + trailing_zeros w128 (word / 2 ^ v)) (sym (moved (trailing_zeros w128 (word / 2 ^ v))) ∙ low.1);
        above = omega arith;
        between = λ w a l. seen word set is fits w ∙ no_bit word w (λ i e. before i (omega arith) (low.2 (i - v) (omega arith)));
      },
      (omega arith, fit (trailing_zeros w128 (word / 2 ^ v)) low.1),
    )
  where
    shifted_fits : word / 2 ^ v < 2 ^ 128
    shifted_fits = let l = shr_le word v in omega arith

    moved : (i : ℕ) → bit_at (word / 2 ^ v) i ≡ bit_at word (v + i)
    moved i = ap (λ k. k % 2) (shr-shr word v i)

    before : (i : ℕ) → v ≤ i → bit_at (word / 2 ^ v) (i - v) ≡ 0 → bit_at word i ≡ 0
    before i l e = let s : v + (i - v) ≡ i = omega arith in subst (λ k. bit_at word k ≡ 0) s (sym (moved (i - v)) ∙ e)

    fit : (k : ℕ) → bit_at (word / 2 ^ v) k ≡ 1 → v + k + 1 ≤ 128
    fit k e = grind (arith, cases_lt (v + k) 128, bit_at_above word 128 (v + k) fits, moved k)

-- no one above v
pub no_bit_above : (word : ℕ) (set : List ℕ) (v : ℕ) → members word ≡ set → word < 2 ^ 128 → word / 2 ^ v ≡ 0 → (w : ℕ) → v < w → mem set w ≡ false
no_bit_above word set v is fits none w l = seen word set is fits w ∙ no_bit word w (λ i e. bit_at_above word v i below (omega arith))
  where
    below : word < 2 ^ v
    below = let whole = shr_split word v in let b = mod_below word (2 ^ v) (pow_pos v) in let z : word / 2 ^ v * 2 ^ v ≡ 0 = rw none (omega arith) in omega arith

pow_le : (n m : ℕ) → n ≤ m → 2 ^ n ≤ 2 ^ m
pow_le n m l = grind (arith, cases_lt n m, pow_below n m)

-- the word of n ones
pub all_bits : (n : ℕ) → n ≤ 128 → members ((2 ^ 128 - 1) / 2 ^ (128 - n)) ≡ rising_list n everything
all_bits n l = ap members (ones_shr 128 (128 - n) (omega arith) ∙ ap (λ k. 2 ^ k - 1) back) ∙ same_rising_list 128 (members (2 ^ n - 1)) (rising_list n everything) (members-rise (2 ^ n - 1)) (set-wider n 128 (rising_list n everything) l (rising_list-rises n everything)) (λ v w. mem-members (2 ^ n - 1) v fits ∙ same v w)
  where
    back : 128 - (128 - n) ≡ n
    back = omega arith

    fits : 2 ^ n - 1 < 2 ^ 128
    fits = let p : 2 ^ n ≤ 2 ^ 128 = pow_le n 128 l in let q = pow_pos n in omega arith

    same : (v : ℕ) → Within 128 v → in_word (2 ^ n - 1) v ≡ mem (rising_list n everything) v
    same zero w = absurd (omega arith)
    same (suc i) w = elim (cases_lt i n) [
      | inl h ↦ rw (bit_at_ones n i h) (sym (mem-rising_list n everything (suc i) (omega arith)))
      | inr h ↦ rw (bit_at_ones_above n i h) (sym (mem-outside n (rising_list n everything) (rising_list-rises n everything) (suc i) (λ u. absurd (omega arith))))
    ]

-- has just the numbers 1 to n
pub mem-all_bits : (n : ℕ) → n ≤ 128 → (v : ℕ) → (mem (members ((2 ^ 128 - 1) / 2 ^ (128 - n))) v ≡ true) ↔ Within n v
mem-all_bits n l v = subst (λ xs. (mem xs v ≡ true) ↔ Within n v) (sym (all_bits n l)) (mem-all n v)

-- the empty word has just the numbers 1 to 0
pub no_bits : (n : ℕ) → n ≡ 0 → members 0 ≡ rising_list n everything
no_bits n e = members-zero ∙ ap (λ k. rising_list k everything) (sym e)

pub mem-no_bits : (n : ℕ) → n ≡ 0 → (v : ℕ) → (mem (members 0) v ≡ true) ↔ Within n v
mem-no_bits n e v = subst (λ xs. (mem xs v ≡ true) ↔ Within n v) (sym (no_bits n e)) (mem-all n v)

-- a shift by all bits leaves nothing
pub shifted_out : (word v : ℕ) → word < 2 ^ 128 → v ≡ 128 → word / 2 ^ v ≡ 0
shifted_out word v fits e = rw e (omega arith)
