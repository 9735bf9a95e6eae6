-- What a run of the front makes of a shelf and a sink, and what is to be said of it.
-- Stated by: front_top.
use Rattle.std.specs.Prelude.{◌≡◌, ℕ, List, Bool, true, false, Option, Some, None}
use Rattle.bench_top.specs.from_outside.Common.{Answer, NamedFile}
use Rattle.bench_top.specs.from_outside.declared.explain.FailureReason.{FailureReason}
use Rattle.bench_top.specs.from_bench_tasks.Common.{command_of}
use Rattle.bench_top.specs.from_bench_outcomes.declared.status.Status.{Status}
use Rattle.bench_top.specs.from_bench_outcomes.declared.status.Status.TheVariants.{Done, WriteFault}
use Rattle.bench_top.specs.Runs.{Runs, RunsTo}
use Rattle.bench_top.specs.declared.ending.RunEnding.{RunEnding}
use Rattle.front_words.specs.Answers.{AnswersAtOnce, answer_of}
use Rattle.front_words.specs.declared.programs.Program.TheVariants.{Mcg}
use Rattle.front_top.specs.declared.ending.Message.{Message}
use Rattle.front_top.specs.declared.ending.Message.TheVariants as message

-- what is to be said of a run of this row is what its ending means: the status, what stopped the
-- run, which is what the files hold and the reads say, and why its input was refused
pub record Speaks {S K : Type 0} (holds : S → Option (List NamedFile)) (is_steady : S → Bool) (faults : S → ℕ) (reads : S → List ℕ → Answer → S → Type 0) (reason : S → Option FailureReason)
    (written : K → Option (List ℕ)) (writes : K → List ℕ → ℕ → K → Type 0) (sink_faults : K → ℕ) (words : List (List ℕ)) (ended : Status) (said : Message)
    (first last : S) (before now : K) : Type 0 where
  pub ending : RunEnding
  pub is_said : said ≡ message.Ending ending
  pub of_status : ending.status ≡ ended
  pub ran : RunsTo holds is_steady faults reads reason written writes sink_faults (command_of words) ended ending.stop ending.refusal first last before now

-- a run of the front on these words, quiet or not, ended with this status, and with this to be
-- said. It led from the first shelf to the last, and from the sink before to the sink now, whose
-- reader is gone or not
pub record Fronts {S K : Type 0} (holds : S → Option (List NamedFile)) (is_steady : S → Bool) (faults : S → ℕ) (reads : S → List ℕ → Answer → S → Type 0) (reason : S → Option FailureReason)
    (written : K → Option (List ℕ)) (writes : K → List ℕ → ℕ → K → Type 0) (sink_faults : K → ℕ) (words : List (List ℕ)) (is_quiet is_abandoned : Bool)
    (ended : Status) (said : Message) (first last : S) (before now : K) : Type 0 where
  -- words that are answered at once get their answer
  pub answers : (text : List ℕ) → answer_of Mcg words ≡ Some text →
      AnswersAtOnce written writes sink_faults Done WriteFault message.Nothing message.Lost text is_quiet is_abandoned ended said first last before now
  -- for all others the run is one of `run`
  pub runs : answer_of Mcg words ≡ None → Runs holds is_steady faults reads written writes sink_faults (command_of words) ended first last before now
  -- and what is to be said is what its ending means
  pub speaks : answer_of Mcg words ≡ None → is_quiet ≡ false →
      Speaks holds is_steady faults reads reason written writes sink_faults words ended said first last before now
  -- if it is to be quiet, nothing is to be said
  pub quiet : is_quiet ≡ true → said ≡ message.Nothing
