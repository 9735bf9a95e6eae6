-- A word and its set: a word of n bits is determined by the bits of its set, so it can be computed
-- from the list of its members.
-- Stated by no contract. Used by: vset_core.
use Rattle.std.specs.Prelude.{◌≡◌, ℕ, zero, suc, ◌+◌, ◌-◌, ◌*◌, ◌^◌, ◌≤◌, ◌<◌, ◌==◌, refl, Bool, true, false}
use Rattle.std.proofs.Common.{sym, ◌∙◌, ap, arith, eq-eqb, ne_eqb, inl, inr}
use Rattle.std.specs.Int.{bit_at}
use Rattle.std.proofs.lemmas.Bool.{cases_lt}
use Rattle.std.proofs.lemmas.Nat.Bits.{bit_at-lt, bit_at_above, bit_at_cat_low, bit_at_cat_high, same_from_bits_below}
use Rattle.counting.specs.Common.{bit, IsRisingIn, mem, rising_list, Set}
use Rattle.counting.proofs.RisingLists.{mem-outside, mem-rising_list, rising_list-rises}
use Rattle.vset_core.specs.Words.{in_word, members, word_of, word_of_list}

-- the highest bit of the word of n + 1 bits, before the word of n bits
word_of-suc : (n : ℕ) (x : Set) → word_of (suc n) x ≡ bit (x (suc n)) * 2 ^ n + word_of n x
unfolding word_of
word_of-suc n x = let e : suc n - 1 ≡ n = omega arith in rw e (omega arith)

-- a bit is at most 1
bit_le : (b : Bool) → bit b ≤ 1
bit_le true = omega arith
bit_le false = omega arith

-- the word of n bits fits n bits
pub word_of_below : (n : ℕ) (x : Set) → word_of n x < 2 ^ n
unfolding word_of
word_of_below zero x = omega arith
word_of_below (suc n) x = fit (x (suc n)) (word_of n x) (word_of_below n x) (word_of-suc n x)
  where
    fit : (b : Bool) (r : ℕ) → r < 2 ^ n → word_of (suc n) x ≡ bit b * 2 ^ n + r → word_of (suc n) x < 2 ^ suc n
    fit true r h e = let p : 2 ^ suc n ≡ 2 * 2 ^ n = omega arith in omega arith
    fit false r h e = let p : 2 ^ suc n ≡ 2 * 2 ^ n = omega arith in omega arith

-- bit 0 of a word of one bit is that bit
bit_at-bit : (b : Bool) → bit_at (bit b) 0 ≡ bit b
bit_at-bit true = refl
bit_at-bit false = refl

-- its bits are the values of the test
pub bit_at-word_of : (n : ℕ) (x : Set) (i : ℕ) → i < n → bit_at (word_of n x) i ≡ bit (x (suc i))
bit_at-word_of zero x i h = absurd (omega arith)
bit_at-word_of (suc n) x i h = ap (λ w. bit_at w i) (word_of-suc n x) ∙ elim (cases_lt i n) [
  | inl l ↦ bit_at_cat_low (bit (x (suc n))) n (word_of n x) i l ∙ bit_at-word_of n x i l
  | inr g ↦ let e : i ≡ n = omega arith in let z : i - n ≡ 0 = omega arith in
      bit_at_cat_high (bit (x (suc n))) n (word_of n x) i (word_of_below n x) g ∙ ap (bit_at (bit (x (suc n)))) z ∙ bit_at-bit (x (suc n)) ∙ ap (λ k. bit (x (suc k))) (sym e)
]

-- the value at v is one bit
pub bit-in_word : (word i : ℕ) → bit (in_word word (suc i)) ≡ bit_at word i
bit-in_word word i = decide (bit_at word i) (bit_at-lt word i)
  where
    decide : (b : ℕ) → b < 2 → bit (b == 1) ≡ b
    decide zero h = refl
    decide (suc b) h = let e : suc b ≡ 1 = omega arith in rw (eq-eqb (suc b) 1 e) (sym e)

-- nothing past the last bit
pub in_word_above : (n word v : ℕ) → word < 2 ^ n → n < v → in_word word v ≡ false
in_word_above n word zero h l = refl
in_word_above n word (suc i) h l = ne_eqb (bit_at word i) 1 (λ e. let z = bit_at_above word n i h (omega arith) in absurd (omega arith))

-- the list of a word of n bits has the numbers of the word
mem-in_word : (n word v : ℕ) → word < 2 ^ n → mem (rising_list n (in_word word)) v ≡ in_word word v
mem-in_word n word v h = elim (cases_lt n v) [
  | inl l ↦ mem-outside n (rising_list n (in_word word)) (rising_list-rises n (in_word word)) v (λ w. absurd (omega arith)) ∙ sym (in_word_above n word v h l)
  | inr g ↦ within v g
]
  where
    within : (u : ℕ) → u ≤ n → mem (rising_list n (in_word word)) u ≡ in_word word u
    within zero l = mem-outside n (rising_list n (in_word word)) (rising_list-rises n (in_word word)) 0 (λ w. absurd (omega arith))
    within (suc i) l = mem-rising_list n (in_word word) (suc i) (omega arith)

-- the members of a word are the numbers of the word
pub mem-members : (word v : ℕ) → word < 2 ^ 128 → mem (members word) v ≡ in_word word v
unfolding members
mem-members word v h = mem-in_word 128 word v h

-- the members are increasing and lie from 1 to 128
pub members-rise : (word : ℕ) → IsRisingIn 128 (members word)
unfolding members
members-rise word = rising_list-rises 128 (in_word word)

-- a word of n bits is computed from its test
pub word_of-in_word : (n word : ℕ) (x : Set) → word < 2 ^ n → ((v : ℕ) → x v ≡ in_word word v) → word_of n x ≡ word
word_of-in_word n word x h e =
    same_from_bits_below n (word_of n x) word (word_of_below n x) h (λ i l. bit_at-word_of n x i l ∙ ap bit (e (suc i)) ∙ bit-in_word word i)

-- a word of 128 bits is computed from its list of members
pub word_of_list-members : (word : ℕ) → word < 2 ^ 128 → word_of_list (members word) ≡ word
unfolding word_of_list
word_of_list-members word h = word_of-in_word 128 word (mem (members word)) h (λ v. mem-members word v h)
