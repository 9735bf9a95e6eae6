-- The messages on a file that is outside its format: each is a line that begins with the name of
-- the program, or a few such lines.
-- Stated by: front_words. Used by: front_top, mcg6_front_top.
use Rattle.std.specs.Prelude.{ℕ, ◌==◌, List, [], ◌∷◌, ◌++◌, codes, if◌then◌else◌, decimal, Option, None, Some}
use Rattle.front_words.specs.BadFiles.{BadFileSeen}
use Rattle.front_words.specs.EmptyLines.{empty_line_in, empty_line_text}
use Rattle.front_words.specs.Faults.{fault_words}
use Rattle.front_words.specs.Notes.{file_note}
use Rattle.front_words.specs.Showing.{shown}
pub use Rattle.front_words.specs.Unread.{unread_text}
use Rattle.front_words.specs.declared.texts.TheConstants as texts

-- the file of that name is too long
abbrev pub too_long_text : (program name : List ℕ) → List ℕ
too_long_text program name =
    program ++ (codes ": " ++ (shown 4096 name ++ (texts.FILE_TOO_LONG.now ++ codes "\n")))

-- a line that is known and is not empty
abbrev pub some_line : Option (List ℕ) → Option (List ℕ)
some_line None = None
some_line (Some []) = None
some_line (Some (byte ∷ text)) = Some (byte ∷ text)

-- the line with that number, if there is one to show
abbrev pub line_shown : (program : List ℕ) (line : ℕ) → Option (List ℕ) → List ℕ
line_shown program line None = []
line_shown program line (Some text) = program ++ (texts.LINE.now ++ (decimal line ++ (texts.LINE_IS.now ++ (shown 60 text ++ codes "\n"))))

-- the name of the file, the line at fault, and what is wrong with it
abbrev pub what_text : (program : List ℕ) → BadFileSeen → List ℕ
what_text program bad =
    program ++ (codes ": " ++ (shown 4096 bad.name ++ (texts.IN_LINE.now ++ (decimal bad.line ++ (codes ": " ++ fault_words bad.file_kind bad.kind)))))

-- the rest of a message after its note: the end of its line, and the text of the line at fault, if
-- there is one to show
abbrev pub rest_text : (program : List ℕ) (line : ℕ) → (text : Option (List ℕ)) → List ℕ
rest_text program line text = codes "\n" ++ line_shown program line text

-- the note on the fault, and the rest of the message; the text is that of the line at fault, if
-- there is one to show
abbrev pub noted_text : (program : List ℕ) → BadFileSeen → (text : Option (List ℕ)) → List ℕ
noted_text program bad text = file_note bad.file_kind bad.kind bad.beginning bad.sizes text ++ rest_text program bad.line text

-- where the file is outside its format, how, and the text of the line, if there is one to show
abbrev pub fault_text : (program : List ℕ) → BadFileSeen → List ℕ
fault_text program bad = what_text program bad ++ noted_text program bad (some_line bad.text)

-- the same, if it is not an empty line that is at fault
abbrev pub unless_empty : (empty : Option ℕ) → (program name : List ℕ) → (text : List ℕ) → List ℕ
unless_empty None program name text = text
unless_empty (Some line) program name text = empty_line_text program name line

-- the same, or that a line is empty
abbrev pub outside_text : (program : List ℕ) → BadFileSeen → List ℕ
outside_text program bad = unless_empty (empty_line_in bad.file_kind bad.beginning) program bad.name (fault_text program bad)

-- what is wrong with a file that is bad: with line 0 it is too long
abbrev pub bad_file_text : (program : List ℕ) → BadFileSeen → List ℕ
bad_file_text program bad = if bad.line == 0 then too_long_text program bad.name else outside_text program bad
