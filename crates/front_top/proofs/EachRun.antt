-- What a run of the front makes of a shelf and a sink, for words that are not answered at once.
-- Idea: such words have no answer, so the part on answers is empty, and the run gives the others.
use Rattle.std.proofs.Common.{◌≡◌, ◌∙◌, ℕ, List, Bool, true, false, Option, None, refl, sym}
use Rattle.bench_top.specs.from_outside.Common.{Answer, NamedFile}
use Rattle.bench_top.specs.from_outside.declared.explain.FailureReason.{FailureReason}
use Rattle.bench_top.specs.from_bench_tasks.Common.{command_of}
use Rattle.bench_top.specs.Runs.{RunsTo}
use Rattle.bench_top.specs.declared.ending.RunEnding.{RunEnding}
use Rattle.front_words.specs.Answers.{answer_of}
use Rattle.front_words.specs.declared.programs.Program.TheVariants.{Mcg}
use Rattle.front_top.specs.Fronts.{Fronts}
use Rattle.front_top.specs.declared.ending.Message.{Message}
use Rattle.front_top.specs.declared.ending.Message.TheVariants.{Nothing, Ending}

module _ {S K : Type 0} (holds : S → Option (List NamedFile)) (is_steady : S → Bool) (faults : S → ℕ) (reads : S → List ℕ → Answer → S → Type 0) (reason : S → Option FailureReason)
    (written : K → Option (List ℕ)) (writes : K → List ℕ → ℕ → K → Type 0) (sink_faults : K → ℕ) (words : List (List ℕ)) (is_quiet is_abandoned : Bool) (said : Message) where
  pub fronts_run : (ending : RunEnding) (first last : S) (before now : K) → answer_of Mcg words ≡ None →
      RunsTo holds is_steady faults reads reason written writes sink_faults (command_of words) ending.status ending.stop ending.refusal first last before now →
      (is_quiet ≡ true → said ≡ Nothing) → (is_quiet ≡ false → said ≡ Ending ending) →
      Fronts holds is_steady faults reads reason written writes sink_faults words is_quiet is_abandoned ending.status said first last before now
  fronts_run ending first last before now none ran quiet loud = record {
    answers = λ text is. let no : ⊥ = cc (sym none ∙ is) in absurd no;
    runs = λ other. ran.runs;
    speaks = λ other is. record { ending = ending; is_said = loud is; of_status = refl; ran = ran };
    quiet = quiet;
  }
