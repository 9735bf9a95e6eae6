-- A word has as many ones as its set has members: with one bit more at the top, the ones below
-- and that bit are counted apart, as the members up to n and the number n + 1 are.
use Rattle.counting.proofs.Common.{◌≡◌, ℕ, zero, suc, ◌+◌, ◌-◌, ◌*◌, ◌/◌, ◌%◌, ◌^◌, ◌<◌, length, sym, ◌∙◌, ap, arith, subst, pow_pos, mod_below, shr_below, shr_split, bit_at_cat_low, bit_at_cat_high, bit_at_lowest, count_congr, length-rising_list, bit, count}
use Rattle.std.specs.Int.Count.{ones, ones_cat}
use Rattle.vset_core.specs.Words.{in_word, members}
use Rattle.vset_core.specs.WordLaws.{bit-in_word}

-- a number below 2 has as many ones as it says
ones-bit : (b : ℕ) → b < 2 → ones b ≡ b
unfolding ones
ones-bit b h = grind arith

-- a bit above n bits
ones-above : (n top low : ℕ) → top < 2 → low < 2 ^ n → ones low ≡ count n (in_word low) → ones (top * 2 ^ n + low) ≡ count (suc n) (in_word (top * 2 ^ n + low))
ones-above n top low one fits below = ones_cat n top low fits ∙ omega (arith, ones-bit top one, lower, highest)
  where
    highest : bit (in_word (top * 2 ^ n + low) (suc n)) ≡ top
    highest = bit-in_word (top * 2 ^ n + low) n ∙ bit_at_cat_high top n low n fits (omega arith) ∙ (let z : n - n ≡ 0 = omega arith in rw (z, bit_at_lowest top) (omega arith))

    lower : count n (in_word low) ≡ count n (in_word (top * 2 ^ n + low))
    lower = grind (arith, count_congr, bit_at_cat_low)

-- the ones of a word of n bits
ones-count : (n word : ℕ) → word < 2 ^ n → ones word ≡ count n (in_word word)
ones-count zero word h = let e : word ≡ 0 = omega arith in ap ones e ∙ ones-bit 0 (omega arith)
ones-count (suc n) word h =
    let top : word / 2 ^ n < 2 = shr_below word 1 n (let e : 1 + n ≡ suc n = omega arith in subst (λ k. word < 2 ^ k) (sym e) h) in
    let fits = mod_below word (2 ^ n) (pow_pos n) in
    subst (λ w. ones w ≡ count (suc n) (in_word w)) (shr_split word n) (ones-above n (word / 2 ^ n) (word % 2 ^ n) top fits (ones-count n (word % 2 ^ n) fits))

pub ones-length : (word : ℕ) → word < 2 ^ 128 → ones word ≡ length (members word)
unfolding members
ones-length word h = ones-count 128 word h ∙ sym (length-rising_list 128 (in_word word))
