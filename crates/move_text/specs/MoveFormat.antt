-- The move format for a graph of order n: a header `m mcg N`, and a line for each move, `rotate
-- PATH` or `switch PATH U V`. A path is a word with a letter for each step, `k` to the `kept` tree
-- and `m` to the `merged` tree; the empty path is `.`. U and V are sets of vertices, written in
-- increasing order and separated by commas.
-- Stated by: move_text, bench_tasks, bench_reports. Used by: bench_outcomes, bench_top, theorems.
use Rattle.std.specs.Prelude.{ℕ, ◌==◌, ◌&&◌, ◌||◌, not, nat_le, Bool, List, [], ◌∷◌, ◌++◌, length, map, codes, Result, Ok, Err, if◌then◌else◌, bytes_eq}
use Rattle.std.specs.List.{list_all, list_any, slice_split}
use Rattle.tree_text.specs.from_line_text.Common.{Rules, checked, has_form, word_at, is_number, value_of, is_out_of_range}
use Rattle.tree_text.specs.from_line_text.declared.faults.FaultKind.{FaultKind}
use Rattle.tree_text.specs.from_line_text.declared.faults.FaultKind.TheVariants as kind
use Rattle.tree_text.specs.from_tree_core.Common.{PlainMove, rotate_at, switch_at}
use Rattle.tree_text.specs.from_tree_core.declared.path.Side.{Side}
use Rattle.tree_text.specs.from_tree_core.declared.path.Side.TheVariants.{Kept, Merged}
use Rattle.tree_text.specs.Common.{is_rising}

-- the most moves
abbrev pub most_moves : ℕ
most_moves = 20000

-- the most steps of a path
abbrev pub most_steps : ℕ
most_steps = 127

-- the letter of a step: `k` or `m`
abbrev pub is_step : ℕ → Bool
is_step byte = (byte == 107) || (byte == 109)

-- the step that a letter writes
abbrev pub side_of : ℕ → Side
side_of byte = if byte == 107 then Kept else Merged

-- a word that writes a path: `.`, or one letter for each of 1 to 127 steps
abbrev pub is_path_word : List ℕ → Bool
is_path_word word = bytes_eq word (codes ".") || (nat_le 1 (length word) && (nat_le (length word) most_steps && list_all is_step word))

-- the path that it writes
abbrev pub path_of : List ℕ → List Side
path_of word = if bytes_eq word (codes ".") then [] else map side_of word

-- the comma
abbrev pub is_comma : ℕ → Bool
is_comma byte = byte == 44

-- the parts of a word between commas
abbrev pub parts_of : List ℕ → List (List ℕ)
parts_of word = slice_split is_comma word

-- each part is a number
abbrev pub are_numbers : List ℕ → Bool
are_numbers word = list_all is_number (parts_of word)

-- the numbers that the parts write
abbrev pub vertices_of : List ℕ → List ℕ
vertices_of word = map value_of (parts_of word)

-- the words of a Rotate: `rotate` and a path
abbrev pub is_rotate_line : List (List ℕ) → Bool
is_rotate_line words = has_form words 2 (codes "rotate" ∷ []) && is_path_word (word_at words 1)

-- the words of a Switch: `switch`, a path and two more
abbrev pub is_switch_line : List (List ℕ) → Bool
is_switch_line words = has_form words 4 (codes "switch" ∷ []) && is_path_word (word_at words 1)

-- the header, by its words
abbrev pub moves_header : ℕ → List (List ℕ) → Result (List PlainMove) FaultKind
moves_header n words =
    checked ((not (has_form words 3 (codes "m" ∷ codes "mcg" ∷ [])), kind.Header)
    ∷ (not (is_number (word_at words 2)), kind.Number)
    ∷ (not (value_of (word_at words 2) == n), kind.Header)
    ∷ [])
    []

-- the line of a Rotate, after these moves
abbrev pub rotate_line : List PlainMove → List (List ℕ) → Result (List PlainMove) FaultKind
rotate_line moves words = Ok (moves ++ rotate_at (path_of (word_at words 1)) ∷ [])

-- the line of a Switch, after these moves, by the words of its path and of its two sets
abbrev pub switch_line : ℕ → List PlainMove → (path u v : List ℕ) → Result (List PlainMove) FaultKind
switch_line n moves path u v =
    checked ((not (are_numbers u && are_numbers v), kind.Number)
    ∷ (list_any (is_out_of_range n) (vertices_of u) || list_any (is_out_of_range n) (vertices_of v), kind.Range)
    ∷ (not (is_rising (vertices_of u) && is_rising (vertices_of v)), kind.NotRising)
    ∷ [])
    (moves ++ switch_at (path_of path) (vertices_of u) (vertices_of v) ∷ [])

-- a significant line after the header, after these moves: an error after the most moves, otherwise
-- a Rotate or a Switch
abbrev pub move_line : ℕ → List PlainMove → List (List ℕ) → Result (List PlainMove) FaultKind
move_line n moves words =
    if nat_le most_moves (length moves) then Err kind.Limit
    else (if is_rotate_line words then rotate_line moves words
    else (if is_switch_line words then switch_line n moves (word_at words 1) (word_at words 2) (word_at words 3)
    else Err kind.Word))

-- the format: the text may end after each line
abbrev pub move_format : ℕ → Rules (List PlainMove) (List PlainMove) FaultKind
move_format n = record { header = moves_header n; line = move_line n; close = λ moves. Ok moves; headless = kind.Header }
