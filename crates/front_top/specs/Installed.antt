-- How the program ends, with what it was given and what it printed.
-- Stated by: front_top.
use Rattle.std.specs.Prelude.{◌≡◌, ℕ, List, [], Bool, true, false, Some, None}
use Rattle.bench_top.specs.from_outside.Common.{HasPrinted, HasSaid, IsOpened, LineState, OpenState, PrintState}
use Rattle.bench_top.specs.from_bench_tasks.Common.{command_of, files_in}
use Rattle.bench_top.specs.from_bench_outcomes.Common.{IsSettled, code_of}
use Rattle.bench_top.specs.from_bench_outcomes.declared.status.Status.{Status}
use Rattle.bench_top.specs.Endings.{Carries}
use Rattle.bench_top.specs.Installed.{IsReportOn, nothing_given, nothing_printed}
use Rattle.bench_top.specs.Runs.{Runs}
use Rattle.front_words.specs.Answers.{answer_of}
use Rattle.front_words.specs.Saying.{IsSaid}
use Rattle.front_words.specs.declared.programs.Program.TheVariants.{Mcg}
use Rattle.front_top.specs.Words.{message_words}
use Rattle.bench_top.specs.declared.ending.RunEnding.{RunEnding}
use Rattle.front_top.specs.declared.ending.Message.{Message}
use Rattle.front_top.specs.declared.ending.Message.TheVariants.{Ending, Nothing}

-- a stream to which nothing was said yet
abbrev pub nothing_said : LineState
nothing_said = record { printed = []; held = []; faults = 0 }

-- the program ended so on these words: with this exit status, these files given and these bytes
-- printed. With words that are not answered at once, the run is one of `run`; and if its status is 0
-- or 1, the files are those that the words name, and the bytes are a report on them. One message was said, once: what the ending of the
-- run means, unless it was to be quiet; if a file stopped the run, it is the one at its place in the
-- words, and where it could not be read, with the reason that the shelf gave
pub record EndsOn (words : List (List ℕ)) (code : ℕ) (shelf : OpenState) (sink : PrintState) (errors : LineState) : Type 0 where
  pub status : Status
  pub is_code : code ≡ code_of status
  pub ran : answer_of Mcg words ≡ None → Runs (λ (s : OpenState). None) (λ (s : OpenState). false) (λ (s : OpenState). s.faults) IsOpened (λ (k : PrintState). Some k.printed) HasPrinted (λ (k : PrintState). k.faults)
      (command_of words) status nothing_given shelf nothing_printed sink
  pub reported : answer_of Mcg words ≡ None → IsSettled status → IsReportOn (command_of words) status shelf.given sink.printed
  pub is_quiet : Bool
  pub message : Message
  pub speaks : answer_of Mcg words ≡ None → is_quiet ≡ false → (ending : RunEnding) × (message ≡ Ending ending) × (ending.status ≡ status) × Carries (files_in (command_of words)) shelf.reason ending.stop
  pub quiet : is_quiet ≡ true → message ≡ Nothing
  pub said : IsSaid (λ (k : LineState). None) HasSaid (λ (k : LineState). k.faults) (message_words words message sink.is_abandoned) nothing_said errors
