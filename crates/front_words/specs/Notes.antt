-- What is added to the words of a fault: what the file is that begins so, the header that is due,
-- the limits, what else reads such a file, or what to write instead.
-- Stated by: front_words. Used by: mcg6_front_top.
use Rattle.std.specs.Prelude.{ℕ, List, ◌++◌, codes, decimal, Option, None, Some}
use Rattle.line_text.specs.declared.faults.FaultKind.{FaultKind}
use Rattle.line_text.specs.declared.faults.FaultKind.TheVariants.{Header, Word, Number, Range, Loop, Limit, Missing, Extra, NotRising, HasGreatest, Unnamed, SameName, BadName, Padding, LongForm}
use Rattle.refusals.specs.declared.file_kind.FileKind.{FileKind}
use Rattle.refusals.specs.declared.file_kind.FileKind.TheVariants.{Graph, Graph6, Tree, Picks, Ears, Moves}
use Rattle.front_words.specs.Faults.{header_note, note_words}
use Rattle.front_words.specs.Openings.{beginning_note, misplaced_note, note_or}
use Rattle.front_words.specs.Shores.{shore_note}
use Rattle.front_words.specs.declared.texts.TheConstants as texts

-- the header that is due in a file for a graph with these numbers of vertices and of edges
abbrev pub due_note : FileKind → (sizes : ℕ × ℕ) → List ℕ
due_note Graph sizes = header_note Graph
due_note Graph6 sizes = header_note Graph6
due_note Tree sizes = texts.DUE_TREE.now ++ (decimal sizes.0 ++ codes "`)")
due_note Picks sizes = header_note Picks
due_note Ears sizes = texts.DUE_EARS.now ++ (decimal sizes.0 ++ (codes " " ++ (decimal sizes.1 ++ codes "`)")))
due_note Moves sizes = texts.DUE_MOVES.now ++ (decimal sizes.0 ++ codes "`)")

-- the same, if these numbers are known; and else the header of the format
abbrev pub header_text : FileKind → (sizes : Option (ℕ × ℕ)) → List ℕ
header_text file_kind None = header_note file_kind
header_text file_kind (Some sizes) = due_note file_kind sizes

-- what is added for the kind; the text is that of the line, if it is known
abbrev pub kind_note : FileKind → FaultKind → (sizes : Option (ℕ × ℕ)) → (text : Option (List ℕ)) → List ℕ
kind_note file_kind Header sizes text = note_or (misplaced_note file_kind text) (header_text file_kind sizes)
kind_note file_kind Word sizes text = note_words file_kind Word
kind_note file_kind Number sizes text = note_words file_kind Number
kind_note file_kind Range sizes text = note_words file_kind Range
kind_note file_kind Loop sizes text = note_words file_kind Loop
kind_note file_kind Limit sizes text = note_words file_kind Limit
kind_note file_kind Missing sizes text = note_words file_kind Missing
kind_note file_kind Extra sizes text = note_words file_kind Extra
kind_note file_kind NotRising sizes text = note_words file_kind NotRising
kind_note file_kind HasGreatest sizes text = shore_note text
kind_note file_kind Unnamed sizes text = note_words file_kind Unnamed
kind_note file_kind SameName sizes text = note_words file_kind SameName
kind_note file_kind BadName sizes text = note_words file_kind BadName
kind_note file_kind Padding sizes text = note_words file_kind Padding
kind_note file_kind LongForm sizes text = note_words file_kind LongForm

-- what the file is that begins so, or else the note for the kind
abbrev pub file_note : FileKind → FaultKind → (beginning : Option (List ℕ)) → (sizes : Option (ℕ × ℕ)) → (text : Option (List ℕ)) → List ℕ
file_note file_kind kind beginning sizes text = note_or (beginning_note file_kind beginning) (kind_note file_kind kind sizes text)
