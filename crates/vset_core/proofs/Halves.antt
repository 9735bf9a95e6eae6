-- The least member of a set and the set of the others, by the halves of its word. Idea: the bits of
-- the low half are those up to 64, and the other bits are those of the high half. So the lowest one
-- is that of the low half, or if this is 0, that of the high half.
use Rattle.counting.proofs.Common.{◌≡◌, ℕ, zero, suc, ◌+◌, ◌-◌, ◌*◌, ◌/◌, ◌%◌, ◌^◌, ◌≤◌, ◌<◌, ◌==◌, ◌&&◌, not, List, ◌∷◌, refl, sym, ◌∙◌, ap, ap₂, subst, subst₂, arith, Bool, true, false, bit_and, inl, inr, ne_eqb, eq-eqb, pow_pos, count_leading_zeros, and_le_l, leading_top, mod_below, shr_split, bit_at-trailing_zeros, bit_at_above, bit_at_cat_low, bit_at_cat_high, cases_eq, cases_lt, first_is_least, split_least, IsGreatestOf, IsLeastOf, IsRisingIn, Set, Within, mem}
use Rattle.std.specs.Int.{bit_at, w64, trailing_zeros}
use Rattle.vset_core.specs.Words.{in_word, members}
use Rattle.vset_core.specs.WordLaws.{members-rise}
use Rattle.vset_core.proofs.Ends.{no_bit, one_bit}
use Rattle.vset_core.proofs.Lowest.{in_word-rest}
use Rattle.vset_core.proofs.Words.{in_word-zero, seen}

-- the bits up to 64, and the others
low_bit : (h l v : ℕ) → v ≤ 64 → in_word (h * 2 ^ 64 + l) v ≡ in_word l v
low_bit h l zero k = refl
low_bit h l (suc i) k = ap (λ b. b == 1) (bit_at_cat_low h 64 l i (omega arith))

high_bit : (h l i : ℕ) → l < 2 ^ 64 → in_word (h * 2 ^ 64 + l) (suc (64 + i)) ≡ in_word h (suc i)
high_bit h l i fits = let e : 64 + i - 64 ≡ i = omega arith in ap (λ b. b == 1) (bit_at_cat_high h 64 l (64 + i) fits (omega arith) ∙ ap (bit_at h) e)

by_halves : (p q : Set) → ((v : ℕ) → v ≤ 64 → p v ≡ q v) → ((i : ℕ) → p (suc (64 + i)) ≡ q (suc (64 + i))) → (v : ℕ) → p v ≡ q v
by_halves p q low high v = elim (cases_lt 64 v) [
  | inl l ↦ let e : suc (64 + (v - 65)) ≡ v = omega arith in subst (λ u. p u ≡ q u) e (high (v - 65))
  | inr g ↦ low v g
]

-- v is the least member of the word x, and the word y has the others
record IsSplitWord (x y v : ℕ) : Type 0 where
  pub fits : y < 2 ^ 128
  pub bit : in_word x v ≡ true
  pub before : (w : ℕ) → w < v → in_word x w ≡ false
  pub others : (w : ℕ) → in_word y w ≡ (in_word x w && not (v == w))

in_low : (h l t : ℕ) → h < 2 ^ 64 → l < 2 ^ 64 → t < 64 → bit_at l t ≡ 1 → ((i : ℕ) → i < t → bit_at l i ≡ 0) → IsSplitWord (h * 2 ^ 64 + l) (h * 2 ^ 64 + bit_and l (l - 1)) (t + 1)
in_low h l t hf lf tf one zeros = record {
  fits = let k = rest_fits in omega arith;
  bit = low_bit h l (t + 1) (omega arith) ∙ one_bit l t one;
  before = λ w k. low_bit h l w (omega arith) ∙ no_bit l w (λ i e. zeros i (omega arith));
  others = by_halves (in_word (h * 2 ^ 64 + rest)) (λ w. in_word (h * 2 ^ 64 + l) w && not (t + 1 == w))
      (λ w k. low_bit h rest w k ∙ in_word-rest l t one zeros w ∙ ap (λ b. b && not (t + 1 == w)) (sym (low_bit h l w k)))
      (λ i. high_bit h rest i rest_fits ∙ sym (ap₂ (λ a b. a && not b) (high_bit h l i lf) (ne_eqb (t + 1) (suc (64 + i)) (λ e. absurd (omega arith))) ∙ kept (in_word h (suc i))));
}
  where
    rest : ℕ
    rest = bit_and l (l - 1)

    rest_fits : rest < 2 ^ 64
    rest_fits = let k = and_le_l l (l - 1) in omega arith

    kept : (b : Bool) → (b && not false) ≡ b
    kept b = grind arith

in_high : (h t : ℕ) → h < 2 ^ 64 → t < 64 → bit_at h t ≡ 1 → ((i : ℕ) → i < t → bit_at h i ≡ 0) → IsSplitWord (h * 2 ^ 64 + 0) (bit_and h (h - 1) * 2 ^ 64 + 0) (t + 65)
in_high h t hf tf one zeros = record {
  fits = let k = and_le_l h (h - 1) in omega arith;
  bit = let e : t + 65 ≡ suc (64 + t) = omega arith in let d : suc t ≡ t + 1 = omega arith in ap (in_word (h * 2 ^ 64 + 0)) e ∙ high_bit h 0 t (omega arith) ∙ ap (in_word h) d ∙ one_bit h t one;
  before = λ w k. none w k;
  others = by_halves (in_word (rest * 2 ^ 64 + 0)) (λ w. in_word (h * 2 ^ 64 + 0) w && not (t + 65 == w))
      (λ w k. low_bit rest 0 w k ∙ in_word-zero w ∙ sym (ap (λ b. b && not (t + 65 == w)) (low_bit h 0 w k ∙ in_word-zero w)))
      (λ i. high_bit rest 0 i (omega arith) ∙ in_word-rest h t one zeros (suc i) ∙ ap₂ (λ a b. a && not b) (sym (high_bit h 0 i (omega arith))) (moved i));
}
  where
    rest : ℕ
    rest = bit_and h (h - 1)

    moved : (i : ℕ) → (t + 1 == suc i) ≡ (t + 65 == suc (64 + i))
    moved i = elim (cases_eq (t + 1) (suc i)) [
      | inl e ↦ eq-eqb (t + 1) (suc i) e ∙ sym (eq-eqb (t + 65) (suc (64 + i)) (omega arith))
      | inr d ↦ ne_eqb (t + 1) (suc i) d ∙ sym (ne_eqb (t + 65) (suc (64 + i)) (λ e. d (omega arith)))
    ]

    none : (w : ℕ) → w < t + 65 → in_word (h * 2 ^ 64 + 0) w ≡ false
    none w k = elim (cases_lt 64 w) [
      | inl l ↦ let e : suc (64 + (w - 65)) ≡ w = omega arith in ap (in_word (h * 2 ^ 64 + 0)) (sym e) ∙ high_bit h 0 (w - 65) (omega arith) ∙ no_bit h (suc (w - 65)) (λ i q. zeros i (omega arith))
      | inr g ↦ low_bit h 0 w g ∙ in_word-zero w
    ]

-- the set of such a word
split_set : (x y v : ℕ) (set others : List ℕ) → members x ≡ set → x < 2 ^ 128 → members y ≡ others → IsSplitWord x y v → set ≡ v ∷ others
split_set x y v set others is fits are split = split_least 128 set others v
    (subst (IsRisingIn 128) is (members-rise x)) (subst (IsRisingIn 128) are (members-rise y)) (seen x set is fits v ∙ split.bit) (λ w l. seen x set is fits w ∙ split.before w l)
    (λ w. seen y others are split.fits w ∙ split.others w ∙ ap (λ b. b && not (v == w)) (sym (seen x set is fits w)))

-- the halves of a word that fits
module _ (x : ℕ) (set others : List ℕ) (is : members x ≡ set) (fits : x < 2 ^ 128) where
  whole : x / 2 ^ 64 * 2 ^ 64 + x % 2 ^ 64 ≡ x
  whole = shr_split x 64

  pub low_fits : x % 2 ^ 64 < 2 ^ 64
  low_fits = mod_below x (2 ^ 64) (pow_pos 64)

  pub high_fits : x / 2 ^ 64 < 2 ^ 64
  high_fits = omega arith

  pub split_low : (y : ℕ) → members y ≡ others → 0 < x % 2 ^ 64 → y ≡ x / 2 ^ 64 * 2 ^ 64 + bit_and (x % 2 ^ 64) (x % 2 ^ 64 - 1) → set ≡ (trailing_zeros w64 (x % 2 ^ 64) + 1) ∷ others
  split_low y are some e =
      let low = bit_at-trailing_zeros w64 (x % 2 ^ 64) some low_fits in
      split_set x y (trailing_zeros w64 (x % 2 ^ 64) + 1) set others is fits are
      (subst₂ (λ a b. IsSplitWord a b (trailing_zeros w64 (x % 2 ^ 64) + 1)) whole (sym e) (in_low (x / 2 ^ 64) (x % 2 ^ 64) (trailing_zeros w64 (x % 2 ^ 64)) high_fits low_fits low.0 low.1 low.2))

  pub split_high : (y : ℕ) → members y ≡ others → x % 2 ^ 64 ≡ 0 → 0 < x / 2 ^ 64 → y ≡ bit_and (x / 2 ^ 64) (x / 2 ^ 64 - 1) * 2 ^ 64 + 0 → set ≡ (trailing_zeros w64 (x / 2 ^ 64) + 65) ∷ others
  split_high y are none some e =
      let low = bit_at-trailing_zeros w64 (x / 2 ^ 64) some high_fits in
      split_set x y (trailing_zeros w64 (x / 2 ^ 64) + 65) set others is fits are
      (subst₂ (λ a b. IsSplitWord a b (trailing_zeros w64 (x / 2 ^ 64) + 65)) (ap (λ r. x / 2 ^ 64 * 2 ^ 64 + r) (sym none) ∙ whole) (sym e) (in_high (x / 2 ^ 64) (trailing_zeros w64 (x / 2 ^ 64)) high_fits low.0 low.1 low.2))

-- the first of a set is its least member
pub least_first : (set others : List ℕ) (v : ℕ) → set ≡ v ∷ others → IsRisingIn 128 set → IsLeastOf set v
least_first set others v e rises = record {
  member = rw e (grind (arith, eq-eqb v v refl));
  before = λ w l. decide (mem set w) (λ m. let k = first_is_least 128 v others (subst (IsRisingIn 128) e rises) w (ap (λ xs. mem xs w) (sym e) ∙ m) in absurd (omega arith));
}
  where
    decide : (b : Bool) → (b ≡ true → b ≡ false) → b ≡ false
    decide true h = h refl
    decide false h = refl

-- the greatest member of a set, by the highest bit of its word
greatest_at : (x j : ℕ) (set : List ℕ) → members x ≡ set → x < 2 ^ 128 → j < 128 → in_word x (suc j) ≡ true → ((w : ℕ) → suc j < w → in_word x w ≡ false) → IsGreatestOf set (suc j) × Within 128 (suc j)
greatest_at x j set is fits low bit after = (record { member = seen x set is fits (suc j) ∙ bit; after = λ w l. seen x set is fits w ∙ after w l }, (omega arith, omega arith))

module _ (x : ℕ) (set : List ℕ) (is : members x ≡ set) (fits : x < 2 ^ 128) where
  pub greatest_high : 0 < x / 2 ^ 64 → IsGreatestOf set (128 - count_leading_zeros 64 (x / 2 ^ 64)) × Within 128 (128 - count_leading_zeros 64 (x / 2 ^ 64))
  greatest_high some =
      let top = leading_top 64 (x / 2 ^ 64) some (high_fits x set set is fits) in
      let j = top.0 in
      let e : 128 - count_leading_zeros 64 (x / 2 ^ 64) ≡ suc (64 + j) = let t = top.1 in omega arith in
      let one : bit_at (x / 2 ^ 64) j ≡ 1 = grind arith in
      let own : in_word (x / 2 ^ 64) (suc j) ≡ true = ap (λ b. b == 1) one in
      subst (λ k. IsGreatestOf set k × Within 128 k) (sym e) (greatest_at x (64 + j) set is fits (let t = top.1 in omega arith)
      (ap (λ n. in_word n (suc (64 + j))) (sym (shr_split x 64)) ∙ high_bit (x / 2 ^ 64) (x % 2 ^ 64) j (low_fits x set set is fits) ∙ own)
      (λ w l. let f : suc (64 + (w - 65)) ≡ w = omega arith in
      ap (in_word x) (sym f) ∙ ap (λ n. in_word n (suc (64 + (w - 65)))) (sym (shr_split x 64)) ∙ high_bit (x / 2 ^ 64) (x % 2 ^ 64) (w - 65) (low_fits x set set is fits) ∙ no_bit (x / 2 ^ 64) (suc (w - 65)) (λ i q. bit_at_above (x / 2 ^ 64) (suc j) i top.3 (omega arith))))

  pub greatest_low : x / 2 ^ 64 ≡ 0 → 0 < x % 2 ^ 64 → IsGreatestOf set (64 - count_leading_zeros 64 (x % 2 ^ 64)) × Within 128 (64 - count_leading_zeros 64 (x % 2 ^ 64))
  greatest_low none some =
      let top = leading_top 64 (x % 2 ^ 64) some (low_fits x set set is fits) in
      let j = top.0 in
      let one : bit_at (x % 2 ^ 64) j ≡ 1 = grind arith in
      let same : x % 2 ^ 64 ≡ x = let w = shr_split x 64 in omega arith in
      let e : 64 - count_leading_zeros 64 (x % 2 ^ 64) ≡ suc j = let t = top.1 in omega arith in
      subst (λ k. IsGreatestOf set k × Within 128 k) (sym e) (greatest_at x j set is fits (let t = top.1 in omega arith)
      (ap (λ n. in_word n (suc j)) (sym same) ∙ ap (λ b. b == 1) one)
      (λ w l. ap (λ n. in_word n w) (sym same) ∙ no_bit (x % 2 ^ 64) w (λ i q. bit_at_above (x % 2 ^ 64) (suc j) i top.3 (omega arith))))
