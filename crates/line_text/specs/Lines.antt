-- The lines of a text.
-- Stated by: line_text, graph_text, tree_text.
-- Used by: move_text, report_text, mcg6_encoder, front_words, bench_outcomes and 3 more.
use Rattle.std.specs.Prelude.{ℕ, ◌==◌, List, [], ◌∷◌, ◌++◌, length, Bool, true, if◌then◌else◌}
use Rattle.std.specs.List.{slice_split}

-- the line feed, byte 10
abbrev pub is_line_feed : ℕ → Bool
is_line_feed byte = byte == 10

-- the parts before, between and after the line feeds are the lines; an empty part after the last
-- line feed does not count
abbrev pub lines_of_parts : List (List ℕ) → List (List ℕ)
lines_of_parts [] = []
lines_of_parts (part ∷ []) = if length part == 0 then [] else part ∷ []
lines_of_parts (part ∷ next ∷ parts) = part ∷ lines_of_parts (next ∷ parts)

-- the lines of a text, which is cut at each line feed
unfoldable pub lines_of : List ℕ → List (List ℕ)
lines_of text = lines_of_parts (slice_split is_line_feed text)

-- the text with these lines, each ended by a line feed
abbrev pub unlines : List (List ℕ) → List ℕ
unlines [] = []
unlines (line ∷ lines) = line ++ 10 ∷ unlines lines

-- whether the text is empty or ends with a line feed, so that appended text begins with a new line
abbrev pub is_closed : List ℕ → Bool
is_closed [] = true
is_closed (byte ∷ []) = is_line_feed byte
is_closed (byte ∷ next ∷ text) = is_closed (next ∷ text)
