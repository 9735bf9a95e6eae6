-- What the kinds of faults are in words, with the headers and the limits of the formats.
-- Stated by: front_words.
use Rattle.std.specs.Prelude.{ℕ, List, []}
use Rattle.line_text.specs.declared.faults.FaultKind.{FaultKind}
use Rattle.line_text.specs.declared.faults.FaultKind.TheVariants.{Header, Word, Number, Range, Loop, Limit, Missing, Extra, NotRising, HasGreatest, Unnamed, SameName, BadName, Padding, LongForm}
use Rattle.refusals.specs.declared.file_kind.FileKind.{FileKind}
use Rattle.refusals.specs.declared.file_kind.FileKind.TheVariants.{Graph, Graph6, Tree, Picks, Ears, Moves}
use Rattle.front_words.specs.declared.texts.TheConstants as texts

-- a fault of that kind in a text of lines
abbrev pub line_fault : FaultKind → List ℕ
line_fault Header = texts.FAULT_HEADER.now
line_fault Word = texts.FAULT_WORD.now
line_fault Number = texts.FAULT_NUMBER.now
line_fault Range = texts.FAULT_RANGE.now
line_fault Loop = texts.FAULT_LOOP.now
line_fault Limit = texts.FAULT_LIMIT.now
line_fault Missing = texts.FAULT_MISSING.now
line_fault Extra = texts.FAULT_EXTRA.now
line_fault NotRising = texts.FAULT_NOT_RISING.now
line_fault HasGreatest = texts.FAULT_HAS_GREATEST.now
line_fault Unnamed = texts.FAULT_UNNAMED.now
line_fault SameName = texts.FAULT_SAME_NAME.now
line_fault BadName = texts.FAULT_BAD_NAME.now
line_fault _ = texts.FAULT_OTHER.now

-- a fault of that kind in a graph6 text
abbrev pub graph6_fault : FaultKind → List ℕ
graph6_fault Range = texts.GRAPH6_RANGE.now
graph6_fault Limit = texts.GRAPH6_LIMIT.now
graph6_fault Missing = texts.GRAPH6_MISSING.now
graph6_fault Extra = texts.GRAPH6_EXTRA.now
graph6_fault Padding = texts.GRAPH6_PADDING.now
graph6_fault LongForm = texts.GRAPH6_LONG_FORM.now
graph6_fault _ = texts.FAULT_OTHER.now

-- a fault of that kind in a file that is read so
abbrev pub fault_words : FileKind → FaultKind → List ℕ
fault_words Graph6 kind = graph6_fault kind
fault_words _ kind = line_fault kind

-- the header of a format, after a fault of it
abbrev pub header_note : FileKind → List ℕ
header_note Graph = texts.HEADER_GRAPH.now
header_note Tree = texts.HEADER_TREE.now
header_note Picks = texts.HEADER_PICKS.now
header_note Ears = texts.HEADER_EARS.now
header_note Moves = texts.HEADER_MOVES.now
header_note _ = []

-- the limits of a format, after a fault of them
abbrev pub limit_note : FileKind → List ℕ
limit_note Graph = texts.LIMIT_GRAPH.now
limit_note Tree = texts.LIMIT_TREE.now
limit_note Picks = texts.LIMIT_PICKS.now
limit_note Moves = texts.LIMIT_MOVES.now
limit_note _ = []

-- what reads a file that is not one graph in graph6
abbrev pub reader_note : FileKind → List ℕ
reader_note Graph6 = texts.READER_GRAPH6.now
reader_note _ = []

-- what is added to the words of a fault: the header, the limits, what else reads such a file, or
-- what to write instead
abbrev pub note_words : FileKind → FaultKind → List ℕ
note_words file_kind Header = header_note file_kind
note_words file_kind Limit = limit_note file_kind
note_words file_kind Extra = reader_note file_kind
note_words file_kind HasGreatest = texts.SHORE_PLAIN.now
note_words _ _ = []
