-- The numbers that words write.
-- Stated by: line_text, move_text.
-- Used by: graph_text, tree_text, ear_text, command_table, front_words, bench_tasks and 4 more.
use Rattle.std.specs.Prelude.{ℕ, ◌&&◌, nat_le, List, length, Bool, if◌then◌else◌, Option, Some, None, unwrap_or, is_some, map}
use Rattle.std.specs.Char.{is_ascii_digit}
use Rattle.std.specs.List.{list_all}
use Rattle.std.specs.Str.Parse.{digits_value}

-- the number that one to nine ASCII digits write in decimal, leading zeros allowed
unfoldable pub number_of : List ℕ → Option ℕ
number_of word =
    if nat_le 1 (length word) && (nat_le (length word) 9 && list_all is_ascii_digit word) then Some (digits_value 10 word) else None

-- the word is a number
abbrev pub is_number : List ℕ → Bool
is_number word = is_some (number_of word)

-- the number that a word writes, or 0 if it writes none
abbrev pub value_of : List ℕ → ℕ
value_of word = unwrap_or (number_of word) 0

-- the numbers that words write, or nothing if one of them writes none
abbrev pub numbers_of : List (List ℕ) → Option (List ℕ)
numbers_of words = if list_all is_number words then Some (map value_of words) else None
