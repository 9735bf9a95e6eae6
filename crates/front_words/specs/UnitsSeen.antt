-- How bytes that are shown together are shown.
-- Stated by: front_words.
use Rattle.std.specs.Prelude.{ℕ, List, [], ◌∷◌}
use Rattle.front_words.specs.Showing.{byte_shown}

-- a byte alone may need an escape; a character beyond ASCII needs none
abbrev pub unit_shown : List ℕ → List ℕ
unit_shown [] = []
unit_shown (byte ∷ []) = byte_shown byte
unit_shown (byte ∷ next ∷ unit) = byte ∷ next ∷ unit
