-- A line of a text by its number.
-- Stated by: front_words. Used by: front_top.
use Rattle.std.specs.Prelude.{ℕ, ◌-◌, List, slice_get, Option}
use Rattle.line_text.specs.Common.{lines_of}

-- the line with that number, counted from 1, if the text has it
abbrev pub line_at : List ℕ → ℕ → Option (List ℕ)
line_at text number = slice_get (lines_of text) (number - 1)
