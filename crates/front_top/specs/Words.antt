-- What is said of each ending.
-- Stated by: front_top.
use Rattle.std.specs.Prelude.{ℕ, List, [], codes, Bool, if◌then◌else◌, Option, Some, None}
use Rattle.line_text.specs.declared.faults.FaultKind.{FaultKind}
use Rattle.bench_top.specs.from_bench_tasks.Common.{bytes_carried}
use Rattle.bench_top.specs.from_bench_tasks.declared.stop.FaultyFile.{FaultyFile}
use Rattle.bench_top.specs.from_bench_tasks.declared.stop.UnreadFile.{UnreadFile}
use Rattle.bench_top.specs.from_bench_tasks.declared.stop.LoadStop.{LoadStop}
use Rattle.bench_top.specs.from_bench_tasks.declared.stop.LoadStop.TheVariants as stop
use Rattle.front_words.specs.from_refusals.declared.refusal.Refusal.{Refusal}
use Rattle.bench_top.specs.from_bench_outcomes.declared.status.Status.{Status}
use Rattle.bench_top.specs.from_bench_outcomes.declared.status.Status.TheVariants.{Done, Negative, Usage, ReadFault, BadInput, WriteFault, Memory}
use Rattle.front_words.specs.Endings.{lost_text, nothing_written_text}
use Rattle.front_words.specs.LinesAt.{line_at}
use Rattle.front_words.specs.Messages.{bad_file_text, unread_text}
use Rattle.front_words.specs.Refused.{refused_text}
use Rattle.front_words.specs.Unmatched.{unmatched_text}
use Rattle.front_words.specs.declared.programs.Program.TheVariants.{Mcg}
use Rattle.front_top.specs.declared.ending.Message.{Message}
use Rattle.front_top.specs.declared.ending.Message.TheVariants as message

-- the name of the program
abbrev pub program : List ℕ
program = codes "mcg"

-- the line with that number of the bytes that are carried, if there are any
abbrev pub carried_line : Option (List ℕ) → ℕ → Option (List ℕ)
carried_line None line = None
carried_line (Some text) line = line_at text line

-- of a bad file: which it is, where it is outside its format and how, and the line
abbrev pub bad_words : (line : ℕ) → FaultKind → FaultyFile → List ℕ
bad_words line kind found =
    bad_file_text program (record {
      name = found.file.name.now;
      file_kind = found.file.kind;
      line = line;
      kind = kind;
      beginning = bytes_carried found;
      sizes = found.sizes;
      text = carried_line (bytes_carried found) line;
    })

-- of a file that could not be read: which it is, and why
abbrev pub unread_words : UnreadFile → List ℕ
unread_words unread = unread_text program unread.file.name.now unread.reason

-- of a stop: of a bad file, or of one that could not be read, with the reason
abbrev pub stop_words : Option LoadStop → List ℕ
stop_words None = []
stop_words (Some (stop.Bad file line kind found)) = bad_words line kind found
stop_words (Some (stop.ReadFault file unread)) = unread_words unread
stop_words (Some stop.Memory) = []

-- of a refusal: what it means
abbrev pub refusal_words : Option Refusal → List ℕ
refusal_words None = []
refusal_words (Some refusal) = refused_text program refusal

-- if the output could not be written whole
abbrev pub lost_words : List ℕ
lost_words = lost_text program

-- what is said of a run of these words that ended with this status, this stop and this refusal;
-- nothing if it is done, and nothing if nobody reads the output any more
abbrev pub run_words : (words : List (List ℕ)) → Status → Option LoadStop → Option Refusal → (is_abandoned : Bool) → List ℕ
run_words words Done stopped refused is_abandoned = []
run_words words Negative stopped refused is_abandoned = refusal_words refused
run_words words Usage stopped refused is_abandoned = unmatched_text Mcg words
run_words words ReadFault stopped refused is_abandoned = stop_words stopped
run_words words BadInput stopped refused is_abandoned = stop_words stopped
run_words words WriteFault stopped refused is_abandoned = if is_abandoned then [] else lost_words
run_words words Memory stopped refused is_abandoned = nothing_written_text program

-- what is said of a run of these words: of an answer that could not be written whole, or of this
-- ending
abbrev pub message_words : (words : List (List ℕ)) → Message → (is_abandoned : Bool) → List ℕ
message_words words message.Nothing is_abandoned = []
message_words words message.Lost is_abandoned = lost_words
message_words words (message.Ending ending) is_abandoned = run_words words ending.status ending.stop ending.refusal is_abandoned
