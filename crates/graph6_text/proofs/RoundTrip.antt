-- Bits that are written as bytes are read again, with zeros after them; and bytes that are read as
-- bits are written again, if only zeros follow the bits. Idea: six bits and a digit determine each
-- other, by division; then six by six.
use Rattle.graph_core.proofs.from_counting.Common.{◌≡◌, ℕ, suc, zero, ◌+◌, ◌*◌, ◌/◌, ◌%◌, ◌<◌, ◌==◌, Bool, true, false, cond, List, [], ◌∷◌, ◌++◌, length, take, drop, refl, sym, ap, ap₂, ◌∙◌, arith, leb, leb-true, nil_from_length, and_parts, and_from, or_parts, or_from, le-leb, append-nil, list_all, list_any, bit}
use Rattle.graph6_text.specs.Common.{byte_of, digit_of, is_digit, weights, bits_of_digit, bits_value, digit_of_bits, bits_of, bytes_of}
use Rattle.graph6_text.proofs.SixBits.{digit_of_bits-lt, bits_of-nil, bits_of-cons}

bit_lt : (b : Bool) → bit b < 2
bit_lt b = grind arith

-- a bit's weight, and a bit given by a number below 2
weight_is : (b : Bool) (w : ℕ) → cond b w 0 ≡ w * bit b
weight_is b w = grind arith

test_is : (x w : ℕ) → x < 2 → cond (x == 1) w 0 ≡ w * x
test_is x w h = grind arith

-- the quotients of a digit by the weights are its bits
places : (n a b c d e f : ℕ) → a < 2 → b < 2 → c < 2 → d < 2 → e < 2 → f < 2 → n ≡ 32 * a + (16 * b + (8 * c + (4 * d + (2 * e + (1 * f + 0))))) →
    ((n / 32) % 2 ≡ a) × ((n / 16) % 2 ≡ b) × ((n / 8) % 2 ≡ c) × ((n / 4) % 2 ≡ d) × ((n / 2) % 2 ≡ e) × ((n / 1) % 2 ≡ f)
places n a b c d e f ha hb hc hd he hf h = (omega arith, omega arith, omega arith, omega arith, omega arith, omega arith)

halves : (d : ℕ) → d < 64 → 32 * ((d / 32) % 2) + (16 * ((d / 16) % 2) + (8 * ((d / 8) % 2) + (4 * ((d / 4) % 2) + (2 * ((d / 2) % 2) + (1 * ((d / 1) % 2) + 0))))) ≡ d
halves d h = omega arith

pub bits-digit_of_bits : (a b c d e f : Bool) → bits_of_digit (digit_of_bits (a ∷ b ∷ c ∷ d ∷ e ∷ f ∷ [])) ≡ a ∷ b ∷ c ∷ d ∷ e ∷ f ∷ []
bits-digit_of_bits a b c d e f =
    let n = digit_of_bits (a ∷ b ∷ c ∷ d ∷ e ∷ f ∷ []) in
    let wa = weight_is a 32 in
    let wb = weight_is b 16 in
    let wc = weight_is c 8 in
    let wd = weight_is d 4 in
    let we = weight_is e 2 in
    let wf = weight_is f 1 in
    let p = places n (bit a) (bit b) (bit c) (bit d) (bit e) (bit f) (bit_lt a) (bit_lt b) (bit_lt c) (bit_lt d) (bit_lt e) (bit_lt f) (omega arith) in
    grind arith

pub digit-bits_of_digit : (d : ℕ) → d < 64 → digit_of_bits (bits_of_digit d) ≡ d
digit-bits_of_digit d h = grind (arith, test_is, halves)

-- a byte that writes a digit below 64
digit-byte_of : (d : ℕ) → digit_of (byte_of d) ≡ d
digit-byte_of d = omega arith

byte-digit_of : (b : ℕ) → is_digit b ≡ true → byte_of (digit_of b) ≡ b
byte-digit_of b h = let p = and_parts (leb 63 b) (leb b 126) h in let q = leb-true 63 b p.0 in omega arith

digit_of-lt : (b : ℕ) → is_digit b ≡ true → digit_of b < 64
digit_of-lt b h = let p = and_parts (leb 63 b) (leb b 126) h in let q = leb-true b 126 p.1 in omega arith

pub is_digit-byte_of : (d : ℕ) → d < 64 → is_digit (byte_of d) ≡ true
is_digit-byte_of d h = and_from (leb 63 (byte_of d)) (leb (byte_of d) 126) (le-leb 63 (byte_of d) (omega arith)) (le-leb (byte_of d) 126 (omega arith))

-- all bits of the list are zeros
abbrev pub AreZeros : List Bool → Type 0
AreZeros bits = list_any (λ bit. bit) bits ≡ false

-- bits with zeros after them, of which there are at most five
pub record Filled (bits whole : List Bool) : Type 0 where
  pub filling : List Bool
  pub behind : whole ≡ bits ++ filling
  pub zeros : AreZeros filling

-- one byte, of fewer than six bits
last_byte : (bits filling : List Bool) (a b c d e f : Bool) → bits ++ filling ≡ a ∷ b ∷ c ∷ d ∷ e ∷ f ∷ [] → AreZeros filling → digit_of_bits bits ≡ digit_of_bits (bits ++ filling) →
    Filled bits (bits_of (byte_of (digit_of_bits bits) ∷ []))
last_byte bits filling a b c d e f whole zeros same = grind (arith, bits_of-cons, digit-byte_of, bits-digit_of_bits, bits_of-nil, append-nil)

pub bits-bytes_of : (bits : List Bool) → Filled bits (bits_of (bytes_of bits))
unfolding bytes_of
bits-bytes_of [] = record { filling = []; behind = bits_of-nil; zeros = refl }
bits-bytes_of (a ∷ []) = last_byte (a ∷ []) (false ∷ false ∷ false ∷ false ∷ false ∷ []) a false false false false false refl refl (omega arith)
bits-bytes_of (a ∷ b ∷ []) = last_byte (a ∷ b ∷ []) (false ∷ false ∷ false ∷ false ∷ []) a b false false false false refl refl (omega arith)
bits-bytes_of (a ∷ b ∷ c ∷ []) = last_byte (a ∷ b ∷ c ∷ []) (false ∷ false ∷ false ∷ []) a b c false false false refl refl (omega arith)
bits-bytes_of (a ∷ b ∷ c ∷ d ∷ []) = last_byte (a ∷ b ∷ c ∷ d ∷ []) (false ∷ false ∷ []) a b c d false false refl refl (omega arith)
bits-bytes_of (a ∷ b ∷ c ∷ d ∷ e ∷ []) = last_byte (a ∷ b ∷ c ∷ d ∷ e ∷ []) (false ∷ []) a b c d e false refl refl (omega arith)
bits-bytes_of (a ∷ b ∷ c ∷ d ∷ e ∷ f ∷ bits) =
    let rest = bits-bytes_of bits in
    let six = a ∷ b ∷ c ∷ d ∷ e ∷ f ∷ [] in
    record {
      filling = rest.filling;
      behind = bits_of-cons (byte_of (digit_of_bits six)) (bytes_of bits)
          ∙ ap₂ ◌++◌ (ap bits_of_digit (digit-byte_of (digit_of_bits six)) ∙ bits-digit_of_bits a b c d e f) rest.behind;
      zeros = rest.zeros;
    }

-- as many bytes as the format says, each of which writes a digit
pub length-bytes_of : (bits : List Bool) → length (bytes_of bits) ≡ (length bits + 5) / 6
unfolding bytes_of
length-bytes_of [] = refl
length-bytes_of (a ∷ []) = refl
length-bytes_of (a ∷ b ∷ []) = refl
length-bytes_of (a ∷ b ∷ c ∷ []) = refl
length-bytes_of (a ∷ b ∷ c ∷ d ∷ []) = refl
length-bytes_of (a ∷ b ∷ c ∷ d ∷ e ∷ []) = refl
length-bytes_of (a ∷ b ∷ c ∷ d ∷ e ∷ f ∷ bits) = let h = length-bytes_of bits in omega arith

digit_first : (bits : List Bool) (bytes : List ℕ) → list_all is_digit bytes ≡ true → list_all is_digit (byte_of (digit_of_bits bits) ∷ bytes) ≡ true
digit_first bits bytes h = and_from (is_digit (byte_of (digit_of_bits bits))) (list_all is_digit bytes) (is_digit-byte_of (digit_of_bits bits) (digit_of_bits-lt bits)) h

pub digits-bytes_of : (bits : List Bool) → list_all is_digit (bytes_of bits) ≡ true
unfolding bytes_of
digits-bytes_of [] = refl
digits-bytes_of (a ∷ []) = digit_first (a ∷ []) [] refl
digits-bytes_of (a ∷ b ∷ []) = digit_first (a ∷ b ∷ []) [] refl
digits-bytes_of (a ∷ b ∷ c ∷ []) = digit_first (a ∷ b ∷ c ∷ []) [] refl
digits-bytes_of (a ∷ b ∷ c ∷ d ∷ []) = digit_first (a ∷ b ∷ c ∷ d ∷ []) [] refl
digits-bytes_of (a ∷ b ∷ c ∷ d ∷ e ∷ []) = digit_first (a ∷ b ∷ c ∷ d ∷ e ∷ []) [] refl
digits-bytes_of (a ∷ b ∷ c ∷ d ∷ e ∷ f ∷ bits) = digit_first (a ∷ b ∷ c ∷ d ∷ e ∷ f ∷ []) (bytes_of bits) (digits-bytes_of bits)

-- if only zeros follow the first k bits, their values have the same sum as all
bits_value-take : (ws : List ℕ) (bits : List Bool) (k : ℕ) → AreZeros (drop k bits) → bits_value ws (take k bits) ≡ bits_value ws bits
bits_value-take [] bits k h = refl
bits_value-take (w ∷ ws) [] zero h = refl
bits_value-take (w ∷ ws) [] (suc k) h = refl
bits_value-take (w ∷ ws) (bit ∷ bits) zero h =
    let p = or_parts bit (list_any (λ bit. bit) bits) h in
    let none : bits_value ws bits ≡ 0 = sym (bits_value-take ws bits zero p.1) ∙ bits_value-nothing ws in
    rw (p.0) (omega arith)
  where
    bits_value-nothing : (ws : List ℕ) → bits_value ws (take 0 bits) ≡ 0
    bits_value-nothing [] = refl
    bits_value-nothing (w ∷ ws) = refl
bits_value-take (w ∷ ws) (bit ∷ bits) (suc k) h = ap (λ (n : ℕ). cond bit w 0 + n) (bits_value-take ws bits k h)

zeros-front : (xs ys : List Bool) → AreZeros (xs ++ ys) → AreZeros xs
zeros-front [] ys h = refl
zeros-front (x ∷ xs) ys h = let p = or_parts x (list_any (λ bit. bit) (xs ++ ys)) h in or_from x (list_any (λ bit. bit) xs) p.0 (zeros-front xs ys p.1)

-- one byte, of which the first k bits are wanted
first_byte : (byte k : ℕ) (bytes : List ℕ) → list_all is_digit (byte ∷ bytes) ≡ true → AreZeros (drop k (bits_of_digit (digit_of byte)) ++ bits_of bytes) →
    byte_of (digit_of_bits (take k (bits_of_digit (digit_of byte)))) ≡ byte
first_byte byte k bytes is zeros =
    let digit = (and_parts (is_digit byte) (list_all is_digit bytes) is).0 in
    let all = bits_value-take weights (bits_of_digit (digit_of byte)) k (zeros-front (drop k (bits_of_digit (digit_of byte))) (bits_of bytes) zeros) in
    ap byte_of (all ∙ digit-bits_of_digit (digit_of byte) (digit_of-lt byte digit)) ∙ byte-digit_of byte digit

pub bytes-bits_of : (bytes : List ℕ) (t : ℕ) → list_all is_digit bytes ≡ true → length bytes ≡ (t + 5) / 6 → AreZeros (drop t (bits_of bytes)) → bytes_of (take t (bits_of bytes)) ≡ bytes
unfolding bytes_of
bytes-bits_of [] zero is many zeros = refl
bytes-bits_of [] (suc t) is many zeros = absurd (omega arith)
bytes-bits_of (byte ∷ bytes) zero is many zeros = absurd (omega arith)
bytes-bits_of (byte ∷ bytes) (suc zero) is many zeros = grind (arith, bits_of-cons byte bytes, first_byte byte 1 bytes is, nil_from_length bytes)
bytes-bits_of (byte ∷ bytes) (suc (suc zero)) is many zeros = grind (arith, bits_of-cons byte bytes, first_byte byte 2 bytes is, nil_from_length bytes)
bytes-bits_of (byte ∷ bytes) (suc (suc (suc zero))) is many zeros = grind (arith, bits_of-cons byte bytes, first_byte byte 3 bytes is, nil_from_length bytes)
bytes-bits_of (byte ∷ bytes) (suc (suc (suc (suc zero)))) is many zeros = grind (arith, bits_of-cons byte bytes, first_byte byte 4 bytes is, nil_from_length bytes)
bytes-bits_of (byte ∷ bytes) (suc (suc (suc (suc (suc zero))))) is many zeros = grind (arith, bits_of-cons byte bytes, first_byte byte 5 bytes is, nil_from_length bytes)
bytes-bits_of (byte ∷ bytes) (suc (suc (suc (suc (suc (suc t)))))) is many zeros =
    let cut = bits_of-cons byte bytes in
    let p = and_parts (is_digit byte) (list_all is_digit bytes) is in
    let rest = bytes-bits_of bytes t p.1 (omega arith) (rw cut at zeros) in
    grind (arith, digit-bits_of_digit (digit_of byte) (digit_of-lt byte p.0), digit_of-lt byte p.0, byte-digit_of byte p.0)
