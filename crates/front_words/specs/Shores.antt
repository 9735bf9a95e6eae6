-- The other shore of a cut, from the line that names one.
-- Stated by: front_words.
use Rattle.std.specs.Prelude.{ℕ, zero, suc, ◌+◌, ◌-◌, ◌==◌, ◌||◌, ◌&&◌, not, List, [], ◌++◌, Bool, false, true, fold, length, nat_le, nat_lt, codes, if◌then◌else◌, decimal, bytes_eq, Option, None, Some}
use Rattle.std.specs.List.{slice_split}
use Rattle.line_text.specs.Common.{is_blank, number_of}
use Rattle.front_words.specs.declared.texts.TheConstants as texts

-- the pieces of a line between its blanks: its words, and an empty one for each further blank
abbrev pub pieces_of : (line : List ℕ) → List (List ℕ)
pieces_of line = slice_split is_blank line

-- the number, if there is one, is that of the vertex
abbrev pub is_that : (vertex : ℕ) → Option ℕ → Bool
is_that vertex None = false
is_that vertex (Some found) = found == vertex

-- the word is the number of that vertex
abbrev pub is_vertex : (vertex : ℕ) → List ℕ → Bool
is_vertex vertex word = is_that vertex (number_of word)

-- the number, if there is one, is that of some vertex
abbrev pub is_of_some : Option ℕ → Bool
is_of_some None = false
is_of_some (Some vertex) = nat_le 1 vertex && nat_le vertex 128

-- the word is the number of some vertex
abbrev pub is_some_vertex : List ℕ → Bool
is_some_vertex word = is_of_some (number_of word)

-- one of the words of the line is the number of that vertex
unfoldable pub names : (line : List ℕ) → (vertex : ℕ) → Bool
names line vertex = fold (λ found word. found || is_vertex vertex word) false (pieces_of line)

-- the word is `cut` or the number of a vertex, or it is empty
abbrev pub is_cut_word : List ℕ → Bool
is_cut_word word = length word == 0 || (bytes_eq word (codes "cut") || is_some_vertex word)

-- each word of the line is `cut` or the number of a vertex
unfoldable pub is_cut : (line : List ℕ) → Bool
is_cut line = fold (λ fits word. fits && is_cut_word word) true (pieces_of line)

-- the highest-numbered vertex that the line names, of the first so many; 0 if it names none
unfoldable pub highest_named : (line : List ℕ) → (count : ℕ) → ℕ
highest_named line zero = 0
highest_named line (suc count) = if names line (suc count) then suc count else highest_named line count

-- the line does not name all of the first so many vertices
unfoldable pub leaves_some : (line : List ℕ) → (count : ℕ) → Bool
leaves_some line zero = false
leaves_some line (suc count) = not (names line (suc count)) || leaves_some line count

-- how many bytes a vertex takes, with the blank before it
abbrev pub width : ℕ → ℕ
width vertex = if nat_lt vertex 10 then 2 else if nat_lt vertex 100 then 3 else 4

-- of so many vertices from `next` on those that the line does not name, at most `left` bytes of
-- them, whole numbers alone, and dots if there are more
unfoldable pub others_text : (line : List ℕ) → (count next left : ℕ) → List ℕ
others_text line zero next left = []
others_text line (suc count) next left =
    if names line next then others_text line count (next + 1) left else
    if nat_lt left (width next) then codes " ..." else
    (codes " " ++ decimal next) ++ others_text line count (next + 1) (left - width next)

-- what to write for a shore with the highest-numbered vertex, if its line is not known
abbrev pub plain_shore_note : List ℕ
plain_shore_note = texts.SHORE_PLAIN.now

-- the other shore, in a graph with so many vertices
abbrev pub other_shore_note : (line : List ℕ) → (order : ℕ) → List ℕ
other_shore_note line order =
    if is_cut line && leaves_some line order then texts.SHORE_OTHER.now ++ (others_text line order 1 57 ++ codes ")") else plain_shore_note

-- what to write for a shore with the highest-numbered vertex; this is the highest on its line, if
-- that is known
abbrev pub shore_note : Option (List ℕ) → List ℕ
shore_note None = plain_shore_note
shore_note (Some line) = other_shore_note line (highest_named line 128)
