-- What is said of each ending.
-- Stated by: mcg6_front_top.
use Rattle.std.specs.Prelude.{ℕ, ◌==◌, List, [], ◌∷◌, ◌++◌, codes, Bool, if◌then◌else◌, Option, Some, None}
use Rattle.mcg6_top.specs.from_mcg6_reader.declared.ending.BadLine.{BadLine}
use Rattle.mcg6_top.specs.from_mcg6_reader.declared.ending.InputEnding.{InputEnding}
use Rattle.mcg6_top.specs.from_mcg6_reader.declared.ending.InputEnding.TheVariants.{Done, Bad, ReadFault, WriteFault, Memory}
use Rattle.mcg6_top.specs.from_mcg6_reader.declared.ending.InputEnding.TheVariants as encoding
use Rattle.mcg6_top.specs.Common.{text_of}
use Rattle.mcg6_top.specs.declared.status.ListRunEnding.{ListRunEnding}
use Rattle.mcg6_top.specs.declared.status.ListRunEnding.TheVariants.{Answered, Encoded}
use Rattle.mcg6_front_top.specs.declared.clues.Clues.{Clues}
use Rattle.mcg6_front_top.specs.declared.ending.ListMessage.{ListMessage}
use Rattle.mcg6_front_top.specs.declared.ending.ListMessage.TheVariants as message
use Rattle.front_words.specs.from_refusals.declared.file_kind.FileKind.TheVariants.{Graph}
use Rattle.front_words.specs.Endings.{first_lines_text, lost_text, nothing_written_text}
use Rattle.front_words.specs.ListMessages.{bad_line_text, unread_list_text}
use Rattle.front_words.specs.Messages.{bad_file_text, unread_text}
use Rattle.front_words.specs.Unmatched.{unmatched_text}
use Rattle.front_words.specs.declared.programs.Program.TheVariants.{Mcg6}

-- the name of the program
abbrev pub program : List ℕ
program = codes "mcg6"

-- if the output could not be written whole
abbrev pub lost_words : List ℕ
lost_words = lost_text program

-- the same; nothing if nobody reads it any more
abbrev pub unwritten_words : (is_abandoned : Bool) → List ℕ
unwritten_words is_abandoned = if is_abandoned then [] else lost_words

-- what is said of a list that ended so, in the file of that name, if it has one; nothing if each
-- line was answered
abbrev pub list_words : (name : Option (List ℕ)) → InputEnding → Clues → List ℕ
list_words name Done clues = []
list_words name (Bad found) clues = bad_line_text program found.number found.kind found.text.items
list_words name ReadFault clues = unread_list_text program name clues.reason
list_words name WriteFault clues = unwritten_words clues.is_abandoned
list_words name Memory clues = first_lines_text program

-- the beginning of a file whose line with that number has this text, if it is the first line
abbrev pub beginning_of : (number : ℕ) (text : List ℕ) → Option (List ℕ)
beginning_of number text = if number == 1 then Some text else None

-- of a bad graph file: its name, where it is outside the format and how, and the line
abbrev pub bad_graph_words : (name : List ℕ) → BadLine → List ℕ
bad_graph_words name found =
    bad_file_text program (record {
      name = name;
      file_kind = Graph;
      line = found.number;
      kind = found.kind;
      beginning = beginning_of found.number found.text.items;
      sizes = None;
      text = Some found.text.items;
    })

-- what is said of the graph file of that name, whose encoding ended so; nothing where its graph6
-- text was written
abbrev pub file_words : (name : List ℕ) → InputEnding → Clues → List ℕ
file_words name encoding.Done clues = []
file_words name (encoding.Bad found) clues = bad_graph_words name found
file_words name encoding.ReadFault clues = unread_text program name clues.reason
file_words name encoding.WriteFault clues = unwritten_words clues.is_abandoned
file_words name encoding.Memory clues = nothing_written_text program

-- what is said of bad lines that were skipped: of each what is said of a bad line, in order
abbrev pub skipped_words : List BadLine → List ℕ
skipped_words [] = []
skipped_words (found ∷ skipped) = bad_line_text program found.number found.kind found.text.items ++ skipped_words skipped

-- what is said of a run that ended so: of a list the lines that were skipped first
abbrev pub ending_words : ListRunEnding → Clues → List ℕ
ending_words (Answered list end) clues = skipped_words end.skipped.items ++ list_words (text_of list.file) end.ending clues
ending_words (Encoded file ending) clues = file_words file.now ending clues

-- what is said of a run of these words that ended so, or of words that match no row
abbrev pub run_words : (words : List (List ℕ)) → Option ListRunEnding → Clues → List ℕ
run_words words None clues = unmatched_text Mcg6 words
run_words words (Some end) clues = ending_words end clues

-- what is said of a run of these words: of an answer that could not be written whole, or of this
-- end
abbrev pub message_words : (words : List (List ℕ)) → ListMessage → Clues → List ℕ
message_words words message.Nothing clues = []
message_words words message.Lost clues = lost_words
message_words words (message.Ending end) clues = run_words words end clues
