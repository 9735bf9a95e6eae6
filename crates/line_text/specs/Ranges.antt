-- Ranges of the numbers of a text.
-- Stated by: line_text, tree_text, ear_text. Used by: graph_text, move_text.
use Rattle.std.specs.Prelude.{ℕ, ◌==◌, ◌||◌, nat_lt, Bool}

-- v is 0 or over n
abbrev pub is_out_of_range : ℕ → ℕ → Bool
is_out_of_range n v = (v == 0) || nat_lt n v
