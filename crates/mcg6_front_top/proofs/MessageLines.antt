-- Each message is whole lines. Idea: a text that ends in a line feed still does behind another, and
-- each message is made of such texts; so nothing of it is held by a stream of lines.
use Rattle.std.proofs.Common.{◌≡◌, ◌∙◌, ℕ, List, [], ◌∷◌, ◌++◌, Bool, true, false, codes, if◌then◌else◌, Option, Some, None, refl, sym, ap, inl, inr, append_assoc, decimal, replicate, length, ◌-◌, ◌==◌}
use Rattle.line_text.specs.FaultKinds.{kind_number}
use Rattle.line_text.specs.declared.faults.FaultKind.{FaultKind}
use Rattle.mcg6_top.specs.from_mcg6_reader.Lines.{IsClosedText}
use Rattle.mcg6_top.proofs.from_mcg6_reader.LineCuts.{IsClosedText-append}
use Rattle.mcg6_top.specs.from_mcg6_reader.declared.ending.BadLine.{BadLine}
use Rattle.mcg6_top.specs.from_mcg6_reader.declared.ending.InputEnding.{InputEnding}
use Rattle.mcg6_top.specs.from_mcg6_reader.declared.ending.InputEnding.TheVariants as ending
use Rattle.mcg6_encoder.specs.from_outside.declared.explain.FailureReason.{FailureReason}
use Rattle.mcg6_top.specs.Common.{text_of}
use Rattle.mcg6_top.specs.declared.status.ListRunEnding.{ListRunEnding}
use Rattle.mcg6_top.specs.declared.status.ListRunEnding.TheVariants.{Answered, Encoded}
use Rattle.front_words.specs.BadFiles.{BadFileSeen}
use Rattle.front_words.specs.EmptyLines.{empty_line_in, empty_words}
use Rattle.front_words.specs.ListMessages.{bad_line_text, bad_line_words, line_kept, list_dash_note, list_joint, unread_list_text}
use Rattle.front_words.specs.Notes.{file_note}
use Rattle.front_words.specs.Openings.{opening_note}
use Rattle.front_words.specs.Reasons.{reason_words}
use Rattle.front_words.specs.Showing.{shown}
use Rattle.front_words.specs.from_refusals.declared.file_kind.FileKind.TheVariants.{Graph}
use Rattle.front_words.specs.Messages.{bad_file_text, fault_text, line_shown, outside_text, some_line, too_long_text, unless_empty, what_text}
use Rattle.front_words.specs.Programs.{name_of}
use Rattle.front_words.specs.Unmatched.{asked_text, asks_twice, behind_text, exchange_text, help_beyond, is_exchanged, known_text, meant, meant_text, mismatch_text, some_reason_text, twice_text, unless_help, unless_version, unmatched_text, version_beyond}
use Rattle.front_words.specs.Unread.{dash_note, unread_noted_text}
use Rattle.front_words.specs.from_command_table.Pages.{command_line, command_lines}
use Rattle.front_words.specs.from_command_table.Reasons.{Mismatch, Unknown, TooMany, TooFew, Wrong, why_unmatched}
use Rattle.front_words.specs.from_command_table.Rows.{Row, Word, word_meaning, word_need}
use Rattle.front_words.specs.from_command_table.Table.{file, form_of, one_of, orders, row_with, rows_lines, rows_notes, skip_file, what}
unfoldable use Rattle.front_words.specs.from_command_table.Table.{list_rows, list_usage_text}
use Rattle.front_words.specs.declared.programs.Program.TheVariants.{Mcg6}
use Rattle.front_words.specs.declared.texts.TheConstants as texts
use Rattle.mcg6_front_top.specs.Words.{beginning_of, ending_words, file_words, list_words, lost_words, message_words, program, run_words, skipped_words, unwritten_words}
use Rattle.mcg6_front_top.specs.declared.clues.Clues.{Clues}
use Rattle.mcg6_front_top.specs.declared.ending.ListMessage.{ListMessage}
use Rattle.mcg6_front_top.specs.declared.ending.ListMessage.TheVariants as message

-- a line feed ends the text
abbrev Ends : List ℕ → Type 0
Ends text = (front : List ℕ) × (text ≡ front ++ 10 ∷ [])

behind : (text more : List ℕ) → Ends more → Ends (text ++ more)
behind text more ends = (text ++ ends.0, ap (λ (t : List ℕ). text ++ t) ends.1 ∙ sym (append_assoc text ends.0 (10 ∷ [])))

feed : Ends (codes "\n")
feed = ([], refl)

one-of : (b : Bool) (x y : List ℕ) → Ends x → Ends y → Ends (if b then x else y)
one-of true x y one two = one
one-of false x y one two = two

-- a line, and then the text of the line at fault, if there is one to show
shown-line : (name : List ℕ) (line : ℕ) (text : Option (List ℕ)) → Ends (codes "\n" ++ line_shown name line text)
shown-line name line None = ([], refl)
shown-line name line (Some text) = behind (codes "\n") _ (behind name _ (behind texts.LINE.now _ (behind (decimal line) _ (behind texts.LINE_IS.now _ (behind (shown 60 text) _ feed)))))

unread-ends : (name file : List ℕ) (reason : Option FailureReason) (note : List ℕ) → Ends (unread_noted_text name file reason note)
unread-ends name file reason note = behind name _ (behind texts.CANNOT_READ.now _ (behind (shown 4096 file) _ (behind (codes ": ") _ (behind (reason_words reason) _ (behind note _ feed)))))

unread-list-ends : (name : List ℕ) (file : Option (List ℕ)) (reason : Option FailureReason) → Ends (unread_list_text name file reason)
unread-list-ends name None reason = behind name _ (behind texts.CANNOT_READ_INPUT.now _ (behind (reason_words reason) _ feed))
unread-list-ends name (Some file) reason = unread-ends name file reason (list_dash_note file)

bad-line-ends : (name : List ℕ) (number : ℕ) (kind : FaultKind) (text : List ℕ) → Ends (bad_line_text name number kind text)
bad-line-ends name number kind text =
    behind name _ (behind texts.LINE.now _ (behind (decimal number) _ (behind texts.KIND.now _ (behind (decimal (kind_number kind)) _
    (behind (list_joint text) _ (behind (bad_line_words kind text) _ (behind (opening_note text) _ (shown-line name number (line_kept text)))))))))

outside-ends : (empty : Option ℕ) (name file text : List ℕ) → Ends text → Ends (unless_empty empty name file text)
outside-ends None name file text ends = ends
outside-ends (Some line) name file text ends =
    behind name _ (behind (codes ": ") _ (behind (shown 4096 file) _ (behind texts.IN_LINE.now _ (behind (decimal line) _ (behind (codes " ") _ (behind empty_words _ feed))))))

bad-file-ends : (name : List ℕ) (bad : BadFileSeen) → Ends (bad_file_text name bad)
bad-file-ends name bad =
    one-of (bad.line == 0) (too_long_text name bad.name) (outside_text name bad)
    (behind name _ (behind (codes ": ") _ (behind (shown 4096 bad.name) _ (behind texts.FILE_TOO_LONG.now _ feed))))
    (outside-ends (empty_line_in bad.file_kind bad.beginning) name bad.name (fault_text name bad)
    (behind (what_text name bad) _ (behind (file_note bad.file_kind bad.kind bad.beginning bad.sizes (some_line bad.text)) _ (shown-line name bad.line (some_line bad.text)))))

-- words that match no row
reason-ends : (name command : List ℕ) (reason : Mismatch) → Ends (some_reason_text name command reason)
reason-ends name command Unknown =
    behind name _ (behind texts.NO_COMMAND.now _ (behind (shown 60 command) _ (behind (codes "; ") _ (behind name _ (behind texts.HELP_LISTS.now _ feed)))))
reason-ends name command TooMany = behind name _ (behind texts.TOO_MANY.now _ (behind (shown 60 command) _ feed))
reason-ends name command (TooFew missing) =
    behind name _ (behind (codes ": ") _ (behind (shown 60 command) _ (behind texts.NEEDS.now _ (behind (word_need missing) _ feed))))
reason-ends name command (Wrong wanted) = behind name _ (behind (codes ": ") _ (behind (word_meaning wanted) _ feed))

mismatch-closed : (name command : List ℕ) (reason : Option Mismatch) → IsClosedText (mismatch_text name command reason)
mismatch-closed name command None = inl refl
mismatch-closed name command (Some reason) = inr (reason-ends name command reason)

row-ends : (command : List ℕ) (words optional : List Word) (about : List ℕ) → Ends (row_with command words optional about).line
row-ends command words optional about =
    behind (codes "  ") _ (behind (form_of command words optional) _ (behind (replicate (29 - length (form_of command words optional)) 32) _ (behind about _ feed)))

abbrev LinesEnd : List Row → Type 0
LinesEnd [] = Unit {0}
LinesEnd (row ∷ rows) = Ends row.line × LinesEnd rows

line-closed : (same : Bool) (line : List ℕ) → Ends line → IsClosedText (if same then line else [])
line-closed true line ends = inr ends
line-closed false line ends = inl refl

lines-closed : (command : List ℕ) (rows : List Row) → LinesEnd rows → IsClosedText (command_lines command rows)
lines-closed command [] ends = inl refl
lines-closed command (row ∷ rows) ends = IsClosedText-append (command_line command row) (command_lines command rows) (line-closed _ row.line ends.0) (lines-closed command rows ends.1)

rows-end : LinesEnd list_rows
unfolding list_rows
rows-end = (
  row-ends (codes "kinds") [] skip_file (codes "a line for each graph: its kind, its bricks and its braces"),
  (
    row-ends (codes "leaves") [] (one_of (codes "ORDER") orders [] (codes "an ORDER") ∷ skip_file) (codes "a line for each leaf of a decomposition, as a graph"),
    (
      row-ends (codes "elementary") [] skip_file (codes "a line for each elementary component, as a graph"),
      (
        row-ends (codes "matching") [] skip_file (codes "a line for each graph: a maximum matching, and D, A and C"),
        (
          row-ends (codes "cuts") [] skip_file (codes "a line for each tight cut that decompose may take first"),
          (
            row-ends (codes "ears") [] skip_file (codes "a line for each graph: an ear decomposition"),
            (
              row-ends (codes "graph") [] file (codes "the graph file of one graph, for mcg"),
              (
                row-ends (codes "select") (what ∷ []) skip_file (codes "the lines whose graph has a property"),
                (
                  row-ends (codes "encode") file [] (codes "the graph6 text of a graph file; parallel edges count once"),
                  tt,
                ),
              ),
            ),
          ),
        ),
      ),
    ),
  ),
)

usage-ends : Ends list_usage_text
unfolding list_usage_text
usage-ends =
    behind (codes "usage: mcg6 COMMAND [ARGUMENT]... <LIST\n") _ (behind (rows_lines list_rows) _ (behind (rows_notes list_rows) _
    (codes "The list is standard input or FILE, with a graph in graph6 on each line.\nWith skip, bad lines are left out and named on standard error.\nFORMATS.md describes the lines that mcg6 writes.", refl)))

exchange-closed : (reason : Option Mismatch) (words : List (List ℕ)) → IsClosedText (exchange_text (name_of Mcg6) reason words)
exchange-closed None words = inl refl
exchange-closed (Some Unknown) words = inl refl
exchange-closed (Some TooMany) words = inl refl
exchange-closed (Some (TooFew missing)) words = inl refl
exchange-closed (Some (Wrong wanted)) words =
    line-closed (is_exchanged wanted words) (name_of Mcg6 ++ (texts.EXCHANGED.now ++ codes "\n")) (behind (name_of Mcg6) _ (behind texts.EXCHANGED.now _ feed))

behind-closed : (command : List ℕ) (reason : Option Mismatch) (words : List (List ℕ)) → IsClosedText (behind_text Mcg6 command reason words)
behind-closed command reason words =
    IsClosedText-append (exchange_text (name_of Mcg6) reason words) (command_lines command list_rows) (exchange-closed reason words) (lines-closed command list_rows rows-end)

meant-closed : (words : List (List ℕ)) (command : Option (List ℕ)) → IsClosedText (meant_text Mcg6 words command)
meant-closed words None = inr usage-ends
meant-closed words (Some command) =
    IsClosedText-append (mismatch_text (name_of Mcg6) command (why_unmatched list_rows words)) (behind_text Mcg6 command (why_unmatched list_rows words) words)
    (mismatch-closed (name_of Mcg6) command (why_unmatched list_rows words)) (behind-closed command (why_unmatched list_rows words) words)

either-closed : (first : Bool) (one two : List ℕ) → IsClosedText one → IsClosedText two → IsClosedText (if first then one else two)
either-closed true one two closed also = closed
either-closed false one two closed also = also

known-closed : (words : List (List ℕ)) → IsClosedText (known_text Mcg6 words)
known-closed words =
    either-closed (asks_twice words) (twice_text (name_of Mcg6)) (meant_text Mcg6 words (meant words))
    (inr (behind (name_of Mcg6) _ (behind texts.HELP_TAKES.now _ (behind (name_of Mcg6) _ (behind texts.HELP_LISTS.now _ feed))))) (meant-closed words (meant words))

version-closed : (word : Option (List ℕ)) (name text : List ℕ) → IsClosedText text → IsClosedText (unless_version word name text)
version-closed None name text closed = closed
version-closed (Some word) name text closed = inr (behind name _ (behind texts.TOO_MANY.now _ (behind (shown 60 word) _ feed)))

asked-closed : (words : List (List ℕ)) → IsClosedText (asked_text Mcg6 words)
asked-closed words = version-closed (version_beyond words) (name_of Mcg6) (known_text Mcg6 words) (known-closed words)

unless-closed : (word : Option (List ℕ)) (name text : List ℕ) → IsClosedText text → IsClosedText (unless_help word name text)
unless-closed None name text closed = closed
unless-closed (Some word) name text closed = inr (behind name _ (behind texts.TOO_MANY.now _ (behind (shown 60 word) _ (behind texts.ONE_COMMAND.now _ feed))))

unmatched-closed : (words : List (List ℕ)) → IsClosedText (unmatched_text Mcg6 words)
unmatched-closed words = unless-closed (help_beyond words) (name_of Mcg6) (asked_text Mcg6 words) (asked-closed words)

-- what is said of an ending
lost-ends : Ends lost_words
lost-ends = behind program _ (behind texts.LOST.now _ feed)

unwritten-closed : (is_abandoned : Bool) → IsClosedText (unwritten_words is_abandoned)
unwritten-closed true = inl refl
unwritten-closed false = inr lost-ends

list-closed : (name : Option (List ℕ)) (ended : InputEnding) (clues : Clues) → IsClosedText (list_words name ended clues)
list-closed name ending.Done clues = inl refl
list-closed name (ending.Bad found) clues = inr (bad-line-ends program found.number found.kind found.text.items)
list-closed name ending.ReadFault clues = inr (unread-list-ends program name clues.reason)
list-closed name ending.WriteFault clues = unwritten-closed clues.is_abandoned
list-closed name ending.Memory clues = inr (behind program _ (behind texts.FIRST_LINES.now _ feed))

file-closed : (name : List ℕ) (ended : InputEnding) (clues : Clues) → IsClosedText (file_words name ended clues)
file-closed name ending.Done clues = inl refl
file-closed name (ending.Bad found) clues = inr (bad-file-ends program (record {
  name = name;
  file_kind = Graph;
  line = found.number;
  kind = found.kind;
  beginning = beginning_of found.number found.text.items;
  sizes = None;
  text = Some found.text.items;
}))
file-closed name ending.ReadFault clues = inr (unread-ends program name clues.reason (dash_note name))
file-closed name ending.WriteFault clues = unwritten-closed clues.is_abandoned
file-closed name ending.Memory clues = inr (behind program _ (behind texts.NOTHING_WRITTEN.now _ feed))

skipped-closed : (skipped : List BadLine) → IsClosedText (skipped_words skipped)
skipped-closed [] = inl refl
skipped-closed (found ∷ skipped) =
    IsClosedText-append (bad_line_text program found.number found.kind found.text.items) (skipped_words skipped)
    (inr (bad-line-ends program found.number found.kind found.text.items)) (skipped-closed skipped)

ending-closed : (end : ListRunEnding) (clues : Clues) → IsClosedText (ending_words end clues)
ending-closed (Answered list end) clues =
    IsClosedText-append (skipped_words end.skipped.items) (list_words (text_of list.file) end.ending clues)
    (skipped-closed end.skipped.items) (list-closed (text_of list.file) end.ending clues)
ending-closed (Encoded file ending) clues = file-closed file.now ending clues

run-closed : (words : List (List ℕ)) (end : Option ListRunEnding) (clues : Clues) → IsClosedText (run_words words end clues)
run-closed words None clues = unmatched-closed words
run-closed words (Some end) clues = ending-closed end clues

pub message-closed : (words : List (List ℕ)) (said : ListMessage) (clues : Clues) → IsClosedText (message_words words said clues)
message-closed words message.Nothing clues = inl refl
message-closed words message.Lost clues = inr lost-ends
message-closed words (message.Ending end) clues = run-closed words end clues
