-- The lines of a list.
-- Stated by: mcg6_reader, mcg6_top, mcg6_front_top.
use Rattle.std.specs.Prelude.{◌≡◌, ℕ, ◌==◌, ◌<◌, ◌⊎◌, not, Bool, if◌then◌else◌, List, [], ◌∷◌, ◌++◌, length, IsTrue}
use Rattle.std.specs.List.{list_all, onto_first}

-- the line feed, byte 10
abbrev pub is_line_feed : ℕ → Bool
is_line_feed byte = byte == 10

-- the lines of a text: each ends with its line feed, which belongs to it; what follows the last
-- line feed is a line too
unfoldable pub lines_of : List ℕ → List (List ℕ)
lines_of [] = []
lines_of (byte ∷ text) = if is_line_feed byte then (byte ∷ []) ∷ lines_of text else onto_first byte (lines_of text)

-- no line feed is in the text
abbrev pub HasNoFeed : List ℕ → Type 0
HasNoFeed text = IsTrue (list_all (λ byte. not (is_line_feed byte)) text)

-- a line feed ends the text, or it is empty
abbrev pub IsClosedText : List ℕ → Type 0
IsClosedText text = (text ≡ []) ⊎ ((front : List ℕ) × (text ≡ front ++ 10 ∷ []))

-- the text is a line with its line feed, and what follows it
pub record IsFirstLine (text line behind : List ℕ) : Type 0 where
  pub whole : text ≡ line ++ behind
  pub alone : lines_of line ≡ line ∷ []
  pub closed : IsClosedText line
  pub shorter : length behind < length text
