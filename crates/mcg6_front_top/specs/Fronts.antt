-- What a run of the front makes of a source and a sink, and what is to be said of it.
-- Stated by: mcg6_front_top.
use Rattle.std.specs.Prelude.{◌≡◌, ℕ, List, Bool, true, false, Option, Some, None}
use Rattle.mcg6_top.specs.Common.{ListRuns, ListRunsTo, status_in}
use Rattle.mcg6_top.specs.declared.status.ListRunEnding.{ListRunEnding}
use Rattle.mcg6_top.specs.declared.status.ListStatus.{ListStatus}
use Rattle.mcg6_top.specs.declared.status.ListStatus.TheVariants.{Done, WriteFault}
use Rattle.front_words.specs.Answers.{AnswersAtOnce, answer_of}
use Rattle.front_words.specs.declared.programs.Program.TheVariants.{Mcg6}
use Rattle.mcg6_front_top.specs.declared.ending.ListMessage.{ListMessage}
use Rattle.mcg6_front_top.specs.declared.ending.ListMessage.TheVariants as message

-- what is to be said of a run of these words is what its end means, and the status is that of the
-- end. The bad lines that are named are those that were skipped, and the one at which the list
-- ended
pub record Speaks {S K : Type 0} (left : S → Option (List ℕ)) (faults : S → ℕ) (reads : S → Option (List ℕ) → S → Type 0)
    (written : K → Option (List ℕ)) (writes : K → List ℕ → ℕ → K → Type 0) (sink_faults : K → ℕ) (words : List (List ℕ)) (ended : ListStatus) (said : ListMessage)
    (first last : S) (before now : K) : Type 0 where
  pub ending : Option ListRunEnding
  pub is_said : said ≡ message.Ending ending
  pub of_status : ended ≡ status_in ending
  pub ran : ListRunsTo left faults reads written writes sink_faults words ending first last before now

-- a run of the front on these words, quiet or not, ended with this status, and with this to be
-- said. It led from the first source to the last, and from the sink before to the sink now, whose
-- reader is gone or not
pub record ListFronts {S K : Type 0} (left : S → Option (List ℕ)) (faults : S → ℕ) (reads : S → Option (List ℕ) → S → Type 0)
    (written : K → Option (List ℕ)) (writes : K → List ℕ → ℕ → K → Type 0) (sink_faults : K → ℕ) (words : List (List ℕ)) (is_quiet is_abandoned : Bool)
    (ended : ListStatus) (said : ListMessage) (first last : S) (before now : K) : Type 0 where
  -- words that are answered at once get their answer
  pub answers : (text : List ℕ) → answer_of Mcg6 words ≡ Some text →
      AnswersAtOnce written writes sink_faults Done WriteFault message.Nothing message.Lost text is_quiet is_abandoned ended said first last before now
  -- for all others status, output and source are those of `run`
  pub runs : answer_of Mcg6 words ≡ None → ListRuns left faults reads written writes sink_faults words ended first last before now
  -- and what is to be said is what the ending means
  pub speaks : answer_of Mcg6 words ≡ None → is_quiet ≡ false → Speaks left faults reads written writes sink_faults words ended said first last before now
  -- if it is to be quiet, nothing is to be said
  pub quiet : is_quiet ≡ true → said ≡ message.Nothing
