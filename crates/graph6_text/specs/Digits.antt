-- Digits of six bits, and the bytes that write them (B. D. McKay, "Description of graph6, sparse6
-- and digraph6 encodings").
-- Stated by: graph6_text. Used by: mcg6_encoder.
use Rattle.std.specs.Prelude.{ℕ, ◌+◌, ◌-◌, ◌/◌, ◌%◌, ◌==◌, ◌&&◌, nat_le, Bool, if◌then◌else◌, List, [], ◌∷◌, map, flat_map}

-- how many digits there are: those of six bits
abbrev pub base : ℕ
base = 64

-- the byte that writes the digit 0
abbrev pub zero_byte : ℕ
zero_byte = 63

-- the byte that writes the largest digit
abbrev pub last_byte : ℕ
last_byte = 126

-- the byte that writes a digit
abbrev pub byte_of : ℕ → ℕ
byte_of digit = digit + zero_byte

-- the digit that a byte writes
abbrev pub digit_of : ℕ → ℕ
digit_of byte = byte - zero_byte

-- a byte writes a digit
abbrev pub is_digit : ℕ → Bool
is_digit byte = nat_le zero_byte byte && nat_le byte last_byte

-- the values of the six bits of a digit, the most significant first
abbrev pub weights : List ℕ
weights = 32 ∷ 16 ∷ 8 ∷ 4 ∷ 2 ∷ 1 ∷ []

-- the six bits of a digit, the most significant first
abbrev pub bits_of_digit : ℕ → List Bool
bits_of_digit digit = map (λ weight. (digit / weight) % 2 == 1) weights

-- the sum of the values of the set bits
abbrev pub bits_value : List ℕ → List Bool → ℕ
bits_value [] bits = 0
bits_value (weight ∷ ws) [] = 0
bits_value (weight ∷ ws) (bit ∷ bits) = (if bit then weight else 0) + bits_value ws bits

-- the digit that begins with these bits, padded with zeros
abbrev pub digit_of_bits : List Bool → ℕ
digit_of_bits bits = bits_value weights bits

-- the bits that bytes write
unfoldable pub bits_of : List ℕ → List Bool
bits_of bytes = flat_map (λ byte. bits_of_digit (digit_of byte)) bytes

-- the bytes that write these bits, six in each, the last padded with zeros
unfoldable pub bytes_of : List Bool → List ℕ
bytes_of [] = []
bytes_of (a ∷ b ∷ c ∷ d ∷ e ∷ f ∷ bits) = byte_of (digit_of_bits (a ∷ b ∷ c ∷ d ∷ e ∷ f ∷ [])) ∷ bytes_of bits
bytes_of bits = byte_of (digit_of_bits bits) ∷ []
