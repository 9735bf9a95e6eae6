-- A word and the word less 1 have all ones in common but the lowest. Idea: up to its lowest one the
-- word is that one followed by zeros, and less 1 it is a zero followed by ones; the bits above are
-- the same.
use Rattle.counting.proofs.Common.{◌≡◌, ℕ, zero, suc, ◌+◌, ◌-◌, ◌*◌, ◌/◌, ◌%◌, ◌^◌, ◌<◌, ◌==◌, ◌&&◌, not, refl, sym, ◌∙◌, ap, arith, Bool, true, bit_and, inl, inr, pow_pos, eq-eqb, ne_eqb, bit_at, mod_below, shr_split, bit_at-zero, bit_at_cat_low, bit_at_cat_high, bit_at_ones_above, same_from_bits_below, cases_eq, cases_lt}
use Rattle.vset_core.specs.Words.{in_word}
use Rattle.vset_core.proofs.Words.{in_word-and}

-- the bits below t are those of the remainder
zeros_below : (x t : ℕ) → ((i : ℕ) → i < t → bit_at x i ≡ 0) → x % 2 ^ t ≡ 0
zeros_below x t zeros = same_from_bits_below t (x % 2 ^ t) 0 (mod_below x (2 ^ t) (pow_pos t)) (pow_pos t) (λ i l.
    sym (bit_at_cat_low (x / 2 ^ t) t (x % 2 ^ t) i l) ∙ ap (λ n. bit_at n i) (shr_split x t) ∙ zeros i l ∙ sym (bit_at-zero i))

-- the word by its lowest one and what is above it
lowest_split : (x t : ℕ) → bit_at x t ≡ 1 → ((i : ℕ) → i < t → bit_at x i ≡ 0) → x ≡ x / 2 ^ t / 2 * 2 ^ suc t + 2 ^ t
lowest_split x t one zeros =
    let low = zeros_below x t zeros in
    let whole = shr_split x t in
    split x (x / 2 ^ t) (x / 2 ^ t / 2) (2 ^ t) (2 ^ suc t) (omega arith) (omega arith) (omega arith)
  where
    split : (x q p e d : ℕ) → x ≡ q * e → q ≡ p * 2 + 1 → d ≡ 2 * e → x ≡ p * d + e
    split x q p e d h k l = rw (h, k, l) (omega arith)

less_one : (x t : ℕ) → bit_at x t ≡ 1 → ((i : ℕ) → i < t → bit_at x i ≡ 0) → x - 1 ≡ x / 2 ^ t / 2 * 2 ^ suc t + (2 ^ t - 1)
less_one x t one zeros = let e = lowest_split x t one zeros in let q = pow_pos t in omega arith

-- from the lowest one on, the word less 1 has the bits of the word without it
at_lowest : (x t : ℕ) → bit_at x t ≡ 1 → ((i : ℕ) → i < t → bit_at x i ≡ 0) → bit_at (x - 1) t ≡ 0
at_lowest x t one zeros = ap (λ n. bit_at n t) (less_one x t one zeros) ∙ bit_at_cat_low (x / 2 ^ t / 2) (suc t) (2 ^ t - 1) t (omega arith) ∙ bit_at_ones_above t t (omega arith)

above_lowest : (x t i : ℕ) → bit_at x t ≡ 1 → ((i : ℕ) → i < t → bit_at x i ≡ 0) → t < i → bit_at (x - 1) i ≡ bit_at x i
above_lowest x t i one zeros l =
    let p : 2 ^ suc t ≡ 2 * 2 ^ t = omega arith in
    let q = pow_pos t in
    ap (λ n. bit_at n i) (less_one x t one zeros) ∙ bit_at_cat_high (x / 2 ^ t / 2) (suc t) (2 ^ t - 1) i (omega arith) (omega arith)
    ∙ sym (ap (λ n. bit_at n i) (lowest_split x t one zeros) ∙ bit_at_cat_high (x / 2 ^ t / 2) (suc t) (2 ^ t) i (omega arith) (omega arith))

-- the common ones are those but the lowest
pub in_word-rest : (x t : ℕ) → bit_at x t ≡ 1 → ((i : ℕ) → i < t → bit_at x i ≡ 0) → (v : ℕ) → in_word (bit_and x (x - 1)) v ≡ (in_word x v && not (t + 1 == v))
in_word-rest x t one zeros zero = refl
in_word-rest x t one zeros (suc i) = in_word-and x (x - 1) (suc i) ∙ elim (cases_lt i t) [
  | inl l ↦ rw (zeros i l) refl
  | inr g ↦ elim (cases_eq (t + 1) (suc i)) [
    | inl e ↦ let same : i ≡ t = omega arith in rw (eq-eqb (t + 1) (suc i) e, same, one, at_lowest x t one zeros) refl
    | inr d ↦ rw (ne_eqb (t + 1) (suc i) d, above_lowest x t i one zeros (omega arith)) (twice (bit_at x i == 1))
  ]
]
  where
    twice : (b : Bool) → (b && b) ≡ (b && true)
    twice b = grind arith
