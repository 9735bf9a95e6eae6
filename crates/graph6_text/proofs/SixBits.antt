-- Six bits and a digit below 64 determine each other, and so do bits and the bytes that write
-- them, six bits in each. Idea: the weights halve, so that a digit's quotients by them are known
-- one after the other; then by induction in steps of six.
use Rattle.graph_core.proofs.from_counting.Common.{◌≡◌, ℕ, zero, suc, ◌+◌, ◌-◌, ◌/◌, ◌%◌, ◌^◌, ◌==◌, slice_get, Some, ◌*◌, ◌<◌, ◌≤◌, Bool, true, false, cond, List, [], ◌∷◌, ◌++◌, length, take, drop, get_or, refl, sym, ap, ◌∙◌, arith, inl, inr, min, append_assoc, take_at, drop_at, drop_more, drop_all, nil_from_length, append-nil, length-append, take_all, cases_lt}
use Rattle.graph6_text.specs.Common.{byte_of, digit_of, weights, bits_of_digit, bits_value, digit_of_bits, bits_of, bytes_of}

bits_value-nil : (ws : List ℕ) → bits_value ws [] ≡ 0
bits_value-nil [] = refl
bits_value-nil (w ∷ ws) = refl

-- the weight of the bits from place i on, with the bit at place i first
bits_value-drop : (ws : List ℕ) (bits : List Bool) (i : ℕ) → i < length ws → i < length bits → bits_value (drop i ws) (drop i bits) ≡ cond (get_or bits i false) (get_or ws i 0) 0 + bits_value (drop (i + 1) ws) (drop (i + 1) bits)
bits_value-drop ws bits i h k = rw (drop_more ws i 0 h, drop_more bits i false k) refl

-- all weights together
abbrev whole : List ℕ → ℕ
whole [] = 0
whole (w ∷ ws) = w + whole ws

bits_value-le : (ws : List ℕ) (bits : List Bool) → bits_value ws bits ≤ whole ws
bits_value-le [] bits = omega arith
bits_value-le (w ∷ ws) [] = omega arith
bits_value-le (w ∷ ws) (true ∷ bits) = let h = bits_value-le ws bits in omega arith
bits_value-le (w ∷ ws) (false ∷ bits) = let h = bits_value-le ws bits in omega arith

pub digit_of_bits-lt : (bits : List Bool) → digit_of_bits bits < 64
digit_of_bits-lt bits = let h = bits_value-le weights bits in omega arith

-- the loop over the bits of a digit: one bit more, and the end
pub weighed_more : (bits : List Bool) (i digit more : ℕ) → i < length bits → length bits ≤ 6 → digit + bits_value (drop i weights) (drop i bits) ≡ digit_of_bits bits →
    more ≡ digit + cond (get_or bits i false) (get_or weights i 0) 0 → more + bits_value (drop (i + 1) weights) (drop (i + 1) bits) ≡ digit_of_bits bits
weighed_more bits i digit more h k inv e = let s = bits_value-drop weights bits i (omega arith) h in omega arith

pub weighed_all : (bits : List Bool) (i digit : ℕ) → length bits ≤ i → digit + bits_value (drop i weights) (drop i bits) ≡ digit_of_bits bits → digit ≡ digit_of_bits bits
weighed_all bits i digit h inv = grind (arith, drop_all i bits h, bits_value-nil (drop i weights))

-- the bits of no byte, and of one more
pub bits_of-nil : bits_of [] ≡ []
unfolding bits_of
bits_of-nil = refl

pub bits_of-cons : (byte : ℕ) (bytes : List ℕ) → bits_of (byte ∷ bytes) ≡ bits_of_digit (digit_of byte) ++ bits_of bytes
unfolding bits_of
bits_of-cons byte bytes = refl

-- a bit of a digit, by a shift
bit_of_digit : (d k : ℕ) → k < 6 → slice_get (bits_of_digit d) k ≡ Some (d / 2 ^ (5 - k) % 2 == 1)
bit_of_digit d zero h = refl
bit_of_digit d (suc zero) h = refl
bit_of_digit d (suc (suc zero)) h = refl
bit_of_digit d (suc (suc (suc zero))) h = refl
bit_of_digit d (suc (suc (suc (suc zero)))) h = refl
bit_of_digit d (suc (suc (suc (suc (suc zero))))) h = refl
bit_of_digit d (suc (suc (suc (suc (suc (suc k)))))) h = absurd (omega arith)

-- the places of the first byte and of the others
first_bits : (byte : ℕ) (bytes : List ℕ) (k : ℕ) → k < 6 → slice_get (bits_of (byte ∷ bytes)) k ≡ slice_get (bits_of_digit (digit_of byte)) k
first_bits byte bytes zero h = rw (bits_of-cons byte bytes) refl
first_bits byte bytes (suc zero) h = rw (bits_of-cons byte bytes) refl
first_bits byte bytes (suc (suc zero)) h = rw (bits_of-cons byte bytes) refl
first_bits byte bytes (suc (suc (suc zero))) h = rw (bits_of-cons byte bytes) refl
first_bits byte bytes (suc (suc (suc (suc zero)))) h = rw (bits_of-cons byte bytes) refl
first_bits byte bytes (suc (suc (suc (suc (suc zero))))) h = rw (bits_of-cons byte bytes) refl
first_bits byte bytes (suc (suc (suc (suc (suc (suc k)))))) h = absurd (omega arith)

other_bits : (byte : ℕ) (bytes : List ℕ) (k : ℕ) → slice_get (bits_of (byte ∷ bytes)) (6 + k) ≡ slice_get (bits_of bytes) k
other_bits byte bytes k = let e : 6 + k ≡ suc (suc (suc (suc (suc (suc k))))) = omega arith in rw (e, bits_of-cons byte bytes) refl

-- bit k, by the byte that has it and its place there
pub bit_at_place : (bytes : List ℕ) (k : ℕ) → k < 6 * length bytes → slice_get (bits_of bytes) k ≡ Some (digit_of (get_or bytes (k / 6) 0) / 2 ^ (5 - k % 6) % 2 == 1)
bit_at_place [] k h = absurd (omega arith)
bit_at_place (byte ∷ bytes) k h = elim (cases_lt k 6) [
  | inl l ↦
      let q : k / 6 ≡ 0 = omega arith in
      let r : k % 6 ≡ k = omega arith in
      rw (q, r) (first_bits byte bytes k l ∙ bit_of_digit (digit_of byte) k l)
  | inr l ↦
      let e : 6 + (k - 6) ≡ k = omega arith in
      let q : k / 6 ≡ suc ((k - 6) / 6) = omega arith in
      let r : k % 6 ≡ (k - 6) % 6 = omega arith in
      rw (q, r) (ap (slice_get (bits_of (byte ∷ bytes))) (sym e) ∙ other_bits byte bytes (k - 6) ∙ bit_at_place bytes (k - 6) (omega arith))
]

-- the first byte of bits, and the others
bytes_of-step : (bits : List Bool) → 0 < length bits → bytes_of bits ≡ byte_of (digit_of_bits (take 6 bits)) ∷ bytes_of (drop 6 bits)
unfolding bytes_of
bytes_of-step [] h = absurd (omega arith)
bytes_of-step (a ∷ []) h = refl
bytes_of-step (a ∷ b ∷ []) h = refl
bytes_of-step (a ∷ b ∷ c ∷ []) h = refl
bytes_of-step (a ∷ b ∷ c ∷ d ∷ []) h = refl
bytes_of-step (a ∷ b ∷ c ∷ d ∷ e ∷ []) h = refl
bytes_of-step (a ∷ b ∷ c ∷ d ∷ e ∷ f ∷ bits) h = refl

pub bytes_of-nil : bytes_of [] ≡ []
unfolding bytes_of
bytes_of-nil = refl

-- the loop over bits that are turned into bytes, six by six
pub packed_more : (bits rest six others : List Bool) (before front more : List ℕ) (size digit : ℕ) → rest ≡ six ++ others → size ≡ 6 → length six ≡ min size (length rest) → 0 < length rest →
    front ++ bytes_of rest ≡ before ++ bytes_of bits → digit ≡ digit_of_bits six → more ≡ front ++ byte_of digit ∷ [] → more ++ bytes_of others ≡ before ++ bytes_of bits
packed_more bits rest six others before front more size digit cut is_six least some inv d e =
    let long : length rest ≡ length six + length others = ap length cut ∙ length-append six others in
    let first : take 6 rest ≡ six = elim (cases_lt (length rest) 6) [
      | inl l ↦ take_all 6 rest (omega arith) ∙ cut ∙ ap (λ (xs : List Bool). six ++ xs) (nil_from_length others (omega arith)) ∙ append-nil six
      | inr l ↦ ap (take 6) cut ∙ take_at six others 6 (omega arith)
    ] in
    let behind : drop 6 rest ≡ others = elim (cases_lt (length rest) 6) [
      | inl l ↦ drop_all 6 rest (omega arith) ∙ sym (nil_from_length others (omega arith))
      | inr l ↦ ap (drop 6) cut ∙ drop_at six others 6 (omega arith)
    ] in
    grind (arith, bytes_of-step rest some, append_assoc front (byte_of digit ∷ []) (bytes_of others))

pub packed_all : (bits rest : List Bool) (before front : List ℕ) → length rest ≡ 0 → front ++ bytes_of rest ≡ before ++ bytes_of bits → front ≡ before ++ bytes_of bits
packed_all bits rest before front h inv = sym (append-nil front) ∙ ap (λ (xs : List ℕ). front ++ xs) (sym (ap bytes_of (nil_from_length rest h) ∙ bytes_of-nil)) ∙ inv

-- six bits for each byte
pub length-bits_of : (bytes : List ℕ) → length (bits_of bytes) ≡ 6 * length bytes
length-bits_of [] = ap length bits_of-nil
length-bits_of (byte ∷ bytes) = grind (arith, length-bits_of bytes, bits_of-cons byte bytes, length-append (bits_of_digit (digit_of byte)) (bits_of bytes))
