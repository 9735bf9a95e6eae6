-- The text that is written for moves.
-- Stated by: move_text. Used by: report_text, bench_outcomes, bench_reports, bench_top, theorems.
use Rattle.std.specs.Prelude.{ℕ, ◌≤◌, ◌<◌, ◌^◌, List, [], ◌∷◌, ◌++◌, All, codes, length, map, decimal}
use Rattle.std.specs.List.{AllByRecursion}
use Rattle.std.specs.List.Sorted.{IsStrictlyIncreasing}
use Rattle.counting.specs.Common.{Within}
use Rattle.tree_text.specs.from_line_text.Common.{written}
use Rattle.tree_text.specs.from_tree_core.Common.{PlainMove, rotate_at, switch_at}
use Rattle.tree_text.specs.from_tree_core.declared.path.Side.{Side}
use Rattle.tree_text.specs.from_tree_core.declared.path.Side.TheVariants.{Kept, Merged}
use Rattle.move_text.specs.MoveFormat.{most_moves, most_steps}

-- the words of the header
abbrev pub header_words : ℕ → List (List ℕ)
header_words n = codes "m" ∷ codes "mcg" ∷ decimal n ∷ []

-- the letter of a step: `k` or `m`
abbrev pub letter_of : Side → ℕ
letter_of Kept = 107
letter_of Merged = 109

-- the word of a path
abbrev pub path_word : List Side → List ℕ
path_word [] = codes "."
path_word (side ∷ path) = letter_of side ∷ map letter_of path

-- numbers, each after a comma
abbrev pub behind_commas : List ℕ → List ℕ
behind_commas [] = []
behind_commas (v ∷ vertices) = 44 ∷ (decimal v ++ behind_commas vertices)

-- the word of a set: its vertices in their order, separated by commas
abbrev pub set_word : List ℕ → List ℕ
set_word [] = []
set_word (v ∷ vertices) = decimal v ++ behind_commas vertices

-- the words of a move
abbrev pub move_words : PlainMove → List (List ℕ)
move_words (rotate_at path) = codes "rotate" ∷ path_word path ∷ []
move_words (switch_at path u v) = codes "switch" ∷ path_word path ∷ set_word u ∷ set_word v ∷ []

-- the text of moves on trees over 1 to n: one space between words, a line feed after each line,
-- numbers in decimal
unfoldable pub moves_text : ℕ → List PlainMove → List ℕ
moves_text n moves = written (header_words n ∷ map move_words moves)

-- the path has at most 127 steps
abbrev pub HasShortPath : PlainMove → Type 0
HasShortPath (rotate_at path) = length path ≤ most_steps
HasShortPath (switch_at path u v) = length path ≤ most_steps

-- the sets of a Switch are not empty and lie within 1 to n
abbrev pub HasSets : ℕ → PlainMove → Type 0
HasSets n (rotate_at path) = Unit {0}
HasSets n (switch_at path u v) = ((0 < length u) × All (Within n) u) × ((0 < length v) × All (Within n) v)

-- the sets of a Switch are increasing
abbrev pub SetsRise : PlainMove → Type 0
SetsRise (rotate_at path) = Unit {0}
SetsRise (switch_at path u v) = IsStrictlyIncreasing u × IsStrictlyIncreasing v

-- moves that can be written: there are not too many, their paths are not too long, and their sets
-- are nonempty increasing lists of vertices
pub record IsWritable (n : ℕ) (moves : List PlainMove) : Type 0 where
  pub order : n < 10 ^ 9
  pub few : length moves ≤ most_moves
  pub paths : AllByRecursion HasShortPath moves
  pub sets : AllByRecursion (HasSets n) moves
  pub rising : AllByRecursion SetsRise moves
