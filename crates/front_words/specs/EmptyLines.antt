-- An empty line where a graph6 text is wanted.
-- Stated by: front_words. Used by: mcg6_front_top.
use Rattle.std.specs.Prelude.{ℕ, ◌||◌, Bool, false, List, [], ◌++◌, codes, if◌then◌else◌, decimal, Option, None, Some, bytes_eq}
use Rattle.refusals.specs.declared.file_kind.FileKind.{FileKind}
use Rattle.refusals.specs.declared.file_kind.FileKind.TheVariants.{Graph, Graph6, Tree, Picks, Ears, Moves}
use Rattle.front_words.specs.LinesAt.{line_at}
use Rattle.front_words.specs.Showing.{shown}
use Rattle.front_words.specs.declared.texts.TheConstants as texts

-- a line without bytes, but for a carriage return
abbrev pub is_empty_line : Option (List ℕ) → Bool
is_empty_line None = false
is_empty_line (Some line) = bytes_eq line [] || bytes_eq line (codes "\r")

-- the first empty line of a text, if it is its first or its second
abbrev pub empty_line : (text : List ℕ) → Option ℕ
empty_line text = if is_empty_line (line_at text 1) then Some 1 else if is_empty_line (line_at text 2) then Some 2 else None

-- the same where an empty line is a fault: in a graph6 text
abbrev pub empty_line_in : FileKind → (beginning : Option (List ℕ)) → Option ℕ
empty_line_in Graph beginning = None
empty_line_in Graph6 None = None
empty_line_in Graph6 (Some text) = empty_line text
empty_line_in Tree beginning = None
empty_line_in Picks beginning = None
empty_line_in Ears beginning = None
empty_line_in Moves beginning = None

-- a line is empty, and how that comes about
abbrev pub empty_words : List ℕ
empty_words = texts.LINE_EMPTY.now

-- the file of that name has an empty line of that number
abbrev pub empty_line_text : (program name : List ℕ) → (line : ℕ) → List ℕ
empty_line_text program name line =
    program ++ (codes ": " ++ (shown 4096 name ++ (texts.IN_LINE.now ++ (decimal line ++ (codes " " ++ (empty_words ++ codes "\n"))))))
