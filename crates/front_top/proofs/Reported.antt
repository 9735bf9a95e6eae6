-- What the program was given and what it printed, of a run of the front.
use Rattle.std.proofs.Common.{◌≡◌, ℕ, List, [], ◌++◌, Bool, false, Option, Some, None, ap, subst, sym}
use Rattle.bench_top.specs.from_outside.Common.{Answer, HasPrinted, HasSaid, IsOpened, LineState, NamedFile, NotesFiles, OpenState, PrintState}
use Rattle.bench_top.specs.from_outside.declared.explain.FailureReason.{FailureReason}
use Rattle.bench_top.specs.from_bench_tasks.Common.{command_of}
use Rattle.bench_top.specs.from_bench_outcomes.Common.{IsSettled, code_of}
use Rattle.bench_top.specs.from_bench_outcomes.declared.status.Status.{Status}
use Rattle.bench_top.specs.Installed.{IsReportOn, nothing_given, nothing_printed}
use Rattle.bench_top.specs.Runs.{Runs}
use Rattle.bench_top.proofs.Reported.{reported-other}
use Rattle.front_words.specs.Answers.{answer_of}
use Rattle.front_words.specs.declared.programs.Program.TheVariants.{Mcg}
use Rattle.front_top.specs.Fronts.{Fronts}
use Rattle.front_top.specs.Installed.{EndsOn, nothing_said}
use Rattle.front_top.specs.Words.{message_words}
use Rattle.front_words.specs.Saying.{IsSaid}
use Rattle.front_top.specs.declared.ending.Message.{Message}

module _ {S : Type 0} (holds : S → Option (List NamedFile)) (is_steady : S → Bool) (faults : S → ℕ) (reads : S → List ℕ → Answer → S → Type 0) (reason : S → Option FailureReason) (given : S → List NamedFile) (notes : NotesFiles reads given)
    (sink_faults : PrintState → ℕ) where
  pub front-reported : (words : List (List ℕ)) (is_quiet is_abandoned : Bool) (status : Status) (said : Message) (first last : S) (before now : PrintState) → given first ≡ [] → before.printed ≡ [] →
      Fronts holds is_steady faults reads reason (λ (k : PrintState). Some k.printed) HasPrinted sink_faults words is_quiet is_abandoned status said first last before now →
      answer_of Mcg words ≡ None → IsSettled status → IsReportOn (command_of words) status (given last) now.printed
  front-reported words is_quiet is_abandoned status said first last before now none_given none_printed fronts none settled =
      reported-other reads given notes (λ (k : PrintState). k.printed) HasPrinted (command_of words) status first last before now settled (fronts.runs none).answered (given last) now.printed
      (ap (λ (fs : List NamedFile). fs ++ given last) (sym none_given)) (ap (λ (bs : List ℕ). bs ++ now.printed) (sym none_printed))

-- that is said of a run of these words, from one state of the stream to another
abbrev IsSaidOf : Message → (words : List (List ℕ)) → (is_abandoned : Bool) → (before now : LineState) → Type 0
IsSaidOf said words is_abandoned before now = IsSaid (λ (k : LineState). None) HasSaid (λ (k : LineState). k.faults) (message_words words said is_abandoned) before now

-- a run of `run` of these words, of a shelf of real files and a stream of a runtime
abbrev pub RanFrom : (words : List (List ℕ)) → Status → (first last : OpenState) → (before now : PrintState) → Type 0
RanFrom words status first last before now = Runs (λ (s : OpenState). None) (λ (s : OpenState). false) (λ (s : OpenState). s.faults) IsOpened (λ (k : PrintState). Some k.printed) HasPrinted (λ (k : PrintState). k.faults)
    (command_of words) status first last before now

module _ (holds : OpenState → Option (List NamedFile)) (is_steady : OpenState → Bool) (faults : OpenState → ℕ) (reads : OpenState → List ℕ → Answer → OpenState → Type 0) (notes : NotesFiles reads (λ (s : OpenState). s.given))
    (sink_faults : PrintState → ℕ) where
  pub ends_from : (words given : List (List ℕ)) (is_quiet is_abandoned : Bool) (status : Status) (said : Message) (first last shelf : OpenState) (before now sink : PrintState) (code : ℕ) → words ≡ given → first.given ≡ [] → before.printed ≡ [] →
      shelf ≡ last → sink ≡ now → code ≡ code_of status → is_abandoned ≡ now.is_abandoned →
      (spoken : List (List ℕ)) (fresh spoke errors : LineState) → spoken ≡ words → fresh ≡ nothing_said → errors ≡ spoke → IsSaidOf said spoken is_abandoned fresh spoke →
      Fronts holds is_steady faults reads (λ (s : OpenState). s.reason) (λ (k : PrintState). Some k.printed) HasPrinted sink_faults words is_quiet is_abandoned status said first last before now →
      (answer_of Mcg words ≡ None → RanFrom words status nothing_given last nothing_printed now) → EndsOn given code shelf sink errors
  ends_from words given is_quiet is_abandoned status said first last shelf before now sink code same none_given none_printed to_shelf to_sink is abandoned spoken fresh spoke errors spoken_is fresh_is to_errors says fronts ran =
      let e : EndsOn words code last now errors = record {
        status = status;
        is_code = is;
        ran = ran;
        reported = front-reported holds is_steady faults reads (λ (s : OpenState). s.reason) (λ (s : OpenState). s.given) notes sink_faults words is_quiet is_abandoned status said first last before now none_given none_printed fronts;
        is_quiet = is_quiet;
        message = said;
        speaks = λ none loud. let speaks = fronts.speaks none loud in (speaks.ending, speaks.is_said, speaks.of_status, speaks.ran.carries);
        quiet = fronts.quiet;
        said = subst (λ (k : LineState). IsSaidOf said words now.is_abandoned nothing_said k) (sym to_errors)
            (subst (λ (k : LineState). IsSaidOf said words now.is_abandoned k spoke) fresh_is
            (subst (λ (b : Bool). IsSaidOf said words b fresh spoke) abandoned
            (subst (λ (ws : List (List ℕ)). IsSaidOf said ws is_abandoned fresh spoke) spoken_is says)));
      } in
      subst (λ (ws : List (List ℕ)). EndsOn ws code shelf sink errors) same (subst (λ (k : PrintState). EndsOn words code shelf k errors) (sym to_sink) (subst (λ (s : OpenState). EndsOn words code s now errors) (sym to_shelf) e))
