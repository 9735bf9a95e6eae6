-- How bytes of the outside are shown in a line: characters that print as they are, and every other
-- byte by an escape.
-- Stated by: front_words. Used by: mcg6_front_top.
use Rattle.std.specs.Prelude.{ℕ, zero, suc, ◌+◌, ◌-◌, ◌/◌, ◌%◌, ◌==◌, ◌||◌, ◌&&◌, not, List, [], ◌∷◌, ◌++◌, Bool, nat_le, nat_lt, slice_index_or, codes, if◌then◌else◌}

-- a byte that is not printable ASCII: one that controls a terminal, or a part of a character
-- beyond ASCII that stands alone
abbrev pub is_control : ℕ → Bool
is_control byte = nat_lt byte 32 || nat_le 127 byte

-- a byte by itself: as it is if it prints; else a backslash with a `t` for a tab, with a backslash
-- for a backslash, and with three octal digits for every other
abbrev pub byte_shown : ℕ → List ℕ
byte_shown byte =
    if byte == 9 then 92 ∷ 116 ∷ [] else
    if byte == 92 then 92 ∷ 92 ∷ [] else
    if is_control byte then 92 ∷ (48 + byte / 64) ∷ (48 + byte / 8 % 8) ∷ (48 + byte % 8) ∷ [] else byte ∷ []

-- the byte at that place, or 0 where the text ends before it
abbrev pub byte_at : List ℕ → ℕ → ℕ
byte_at text place = slice_index_or text place 0

-- a further byte of a character beyond ASCII
abbrev pub is_further : ℕ → Bool
is_further byte = nat_le 128 byte && nat_le byte 191

-- a character of two bytes begins the text, and it is not one of the control characters U+0080 to
-- U+009F. UTF-8 by RFC 3629, section 4
abbrev pub begins_two : List ℕ → Bool
begins_two text =
    (nat_le 194 (byte_at text 0) && nat_le (byte_at text 0) 223) && (is_further (byte_at text 1) && not (byte_at text 0 == 194 && nat_lt (byte_at text 1) 160))

-- the text begins with a byte from `first` to `last` and a further one, which is at least `least`
-- after `first` and less than `limit` after `top`
abbrev pub begins_in : (first last least top limit : ℕ) → List ℕ → Bool
begins_in first last least top limit text =
    (nat_le first (byte_at text 0) && nat_le (byte_at text 0) last) && (is_further (byte_at text 1)
    && (not (byte_at text 0 == first && nat_lt (byte_at text 1) least) && not (byte_at text 0 == top && nat_le limit (byte_at text 1))))

-- the byte is from the first of these to the last
abbrev pub is_within : (byte first last : ℕ) → Bool
is_within byte first last = nat_le first byte && nat_le byte last

-- these bytes, behind 226, are of a character without a shape or that turns the direction of the
-- line: U+200B to U+200F, U+2028 to U+202E, U+2066 to U+2069
unfoldable pub is_layout : (second third : ℕ) → Bool
is_layout second third =
    if second == 128 then is_within third 139 143 || is_within third 168 174 else
    second == 129 && is_within third 166 169

-- these bytes, behind 239, are of a character for private use, up to U+F8FF, of a noncharacter, or
-- of a mark: U+FDD0 to U+FDEF, U+FEFF, U+FFF9 to U+FFFB, U+FFFE and U+FFFF
unfoldable pub is_special : (second third : ℕ) → Bool
is_special second third =
    if second == 183 then is_within third 144 175 else
    if second == 187 then third == 191 else
    if second == 191 then is_within third 185 187 || nat_le 190 third else
    nat_le second 163

-- these three bytes are a character that does not print, if they are one
unfoldable pub is_hidden_three : (first second third : ℕ) → Bool
is_hidden_three first second third =
    if first == 226 then is_layout second third else
    if first == 239 then is_special second third else
    first == 238

-- the character of four bytes that begins so, if it is one, is a tag, U+E0000 to U+E007F, or for
-- private use, from U+F0000
unfoldable pub is_hidden_plane : (first second third : ℕ) → Bool
is_hidden_plane first second third =
    if first == 243 then nat_le 176 second || (second == 160 && nat_le third 129) else
    first == 244

-- a character of four bytes that ends so is one of the last two of its plane, which are
-- noncharacters
unfoldable pub ends_plane : (second third fourth : ℕ) → Bool
ends_plane second third fourth = second % 16 == 15 && (third == 191 && nat_le 190 fourth)

-- a character of three bytes that prints begins the text
abbrev pub begins_three : List ℕ → Bool
begins_three text =
    (begins_in 224 239 160 237 160 text && is_further (byte_at text 2)) && not (is_hidden_three (byte_at text 0) (byte_at text 1) (byte_at text 2))

-- a character of four bytes that prints begins the text
abbrev pub begins_four : List ℕ → Bool
begins_four text =
    (begins_in 240 244 144 244 144 text && (is_further (byte_at text 2) && is_further (byte_at text 3)))
    && (not (is_hidden_plane (byte_at text 0) (byte_at text 1) (byte_at text 2)) && not (ends_plane (byte_at text 1) (byte_at text 2) (byte_at text 3)))

-- how many bytes of the text are shown together: those of a character beyond ASCII that prints, or
-- one
abbrev pub unit_size : List ℕ → ℕ
unit_size text = if begins_two text then 2 else if begins_three text then 3 else if begins_four text then 4 else 1

-- the first byte of a unit of that size: as it is in a character beyond ASCII
abbrev pub first_shown : (size : ℕ) → ℕ → List ℕ
first_shown size byte = if size == 1 then byte_shown byte else byte ∷ []

-- units of a text, at most `most` bytes of them, and dots if there are more; of the unit at the
-- front `inside` bytes are still to be shown, each as it is
unfoldable pub units_shown : (most inside : ℕ) → List ℕ → List ℕ
units_shown most inside [] = []
units_shown most (suc inside) (byte ∷ text) = byte ∷ units_shown most inside text
units_shown most zero (byte ∷ text) =
    if nat_lt most (unit_size (byte ∷ text)) then codes "..." else
    first_shown (unit_size (byte ∷ text)) byte ++ units_shown (most - unit_size (byte ∷ text)) (unit_size (byte ∷ text) - 1) text

-- at most so many bytes of a text, whole characters alone, and dots if there are more
abbrev pub begin_shown : ℕ → List ℕ → List ℕ
begin_shown most text = units_shown most 0 text

-- the same, and two quotes for the empty text
unfoldable pub shown : ℕ → List ℕ → List ℕ
shown most [] = codes "''"
shown most (byte ∷ text) = begin_shown most (byte ∷ text)
