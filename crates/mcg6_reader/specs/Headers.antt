-- The header of a list.
-- Stated by: mcg6_reader. Used by: mcg6_top.
use Rattle.std.specs.Prelude.{ℕ, ◌==◌, ◌&&◌, ◌||◌, Bool, List, codes, bytes_eq}

-- the line is just the header, with or without a line end
abbrev pub is_header_line : List ℕ → Bool
is_header_line line =
    bytes_eq line (codes ">>graph6<<\n") || bytes_eq line (codes ">>graph6<<\r\n") || bytes_eq line (codes ">>graph6<<")

-- the line with that number is the first and just the header
abbrev pub is_header : ℕ → List ℕ → Bool
is_header number line = number == 1 && is_header_line line
