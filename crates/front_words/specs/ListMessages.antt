-- The messages on lists of graphs: each is a line that begins with the name of the program, or two
-- such lines.
-- Stated by: front_words, mcg6_front_top.
use Rattle.std.specs.Prelude.{ℕ, ◌==◌, ◌||◌, Bool, List, [], ◌++◌, codes, length, nat_lt, if◌then◌else◌, decimal, Option, None, Some, bytes_eq}
use Rattle.line_text.specs.declared.faults.FaultKind.{FaultKind}
use Rattle.line_text.specs.declared.faults.FaultKind.TheVariants.{Header, Word, Number, Range, Loop, Limit, Missing, Extra, NotRising, HasGreatest, Unnamed, SameName, BadName, Padding, LongForm}
use Rattle.line_text.specs.FaultKinds.{kind_number}
use Rattle.outside.specs.Common.{most_line}
use Rattle.outside.specs.declared.explain.FailureReason.{FailureReason}
use Rattle.front_words.specs.EmptyLines.{empty_words}
use Rattle.front_words.specs.Faults.{graph6_fault}
use Rattle.front_words.specs.LinesAt.{line_at}
use Rattle.front_words.specs.Messages.{line_shown, some_line}
use Rattle.front_words.specs.Openings.{opening_note}
use Rattle.front_words.specs.Reasons.{reason_words}
use Rattle.front_words.specs.Unread.{unread_noted_text}
use Rattle.front_words.specs.declared.texts.TheConstants as texts

-- what is added where a dash is to stand for standard input, which is what is read without a name
abbrev pub list_dash_note : (name : List ℕ) → List ℕ
list_dash_note name = if bytes_eq name (codes "-") then texts.DASH_LIST.now else []

-- the list in the file of that name, or with none that of standard input, could not be read, for
-- that reason
abbrev pub unread_list_text : (program : List ℕ) → Option (List ℕ) → Option FailureReason → List ℕ
unread_list_text program None reason = program ++ (texts.CANNOT_READ_INPUT.now ++ (reason_words reason ++ codes "\n"))
unread_list_text program (Some name) reason = unread_noted_text program name reason (list_dash_note name)

-- a line of a list of which only its line end is left
abbrev pub is_blank_line : (text : List ℕ) → Bool
is_blank_line text = bytes_eq text (codes "\n") || bytes_eq text (codes "\r\n")

-- a line of a list that ends too early: the empty text is that of a line which is missing at the
-- end of the list
abbrev pub short_line : (text : List ℕ) → List ℕ
short_line text =
    if length text == 0 then texts.LIST_ENDS.now else graph6_fault Missing

-- a line of a list that passes a limit
abbrev pub long_line : (text : List ℕ) → List ℕ
long_line text =
    if nat_lt most_line (length text) then texts.LINE_TOO_LONG.now else graph6_fault Limit

-- a fault of that kind in a line of a list with this text
abbrev pub list_fault : FaultKind → (text : List ℕ) → List ℕ
list_fault Header text = graph6_fault Header
list_fault Word text = graph6_fault Word
list_fault Number text = graph6_fault Number
list_fault Range text = graph6_fault Range
list_fault Loop text = graph6_fault Loop
list_fault Limit text = long_line text
list_fault Missing text = short_line text
list_fault Extra text = graph6_fault Extra
list_fault NotRising text = graph6_fault NotRising
list_fault HasGreatest text = graph6_fault HasGreatest
list_fault Unnamed text = graph6_fault Unnamed
list_fault SameName text = graph6_fault SameName
list_fault BadName text = graph6_fault BadName
list_fault Padding text = graph6_fault Padding
list_fault LongForm text = graph6_fault LongForm

-- what joins the numbers of the line and of the kind to what is wrong with the line
abbrev pub list_joint : (text : List ℕ) → List ℕ
list_joint text = if is_blank_line text then texts.THE_LINE.now else codes ": "

-- what is wrong with the line: it is empty, or has a fault of that kind
abbrev pub bad_line_words : FaultKind → (text : List ℕ) → List ℕ
bad_line_words kind text = if is_blank_line text then empty_words else list_fault kind text

-- the line of a text, without its line feed, unless nothing is in it
abbrev pub line_kept : (text : List ℕ) → Option (List ℕ)
line_kept text = some_line (line_at text 1)

-- the first bad line of a list has that number and a fault of that kind, and this text as far as
-- it was kept: the message begins with the two numbers, which programs read
abbrev pub bad_line_text : (program : List ℕ) (number : ℕ) (kind : FaultKind) (text : List ℕ) → List ℕ
bad_line_text program number kind text =
    program ++ (texts.LINE.now ++ (decimal number ++ (texts.KIND.now ++ (decimal (kind_number kind) ++ (list_joint text ++ (bad_line_words kind text ++ (opening_note text ++ (codes "\n" ++ line_shown program number (line_kept text)))))))))
