-- What a run of the front makes of a source and a sink, for words that are not answered at once.
-- Idea: such words have no answer, so the part on answers is empty, and the run gives the others.
use Rattle.std.proofs.Common.{◌≡◌, ◌∙◌, ℕ, List, Bool, true, false, Option, None, refl, sym}
use Rattle.mcg6_top.proofs.Ended.{runs_by_status}
use Rattle.mcg6_top.specs.Common.{ListRunsTo, status_in}
use Rattle.mcg6_top.specs.declared.status.ListRunEnding.{ListRunEnding}
use Rattle.front_words.specs.Answers.{answer_of}
use Rattle.front_words.specs.declared.programs.Program.TheVariants.{Mcg6}
use Rattle.mcg6_front_top.specs.Fronts.{ListFronts}
use Rattle.mcg6_front_top.specs.declared.ending.ListMessage.{ListMessage}
use Rattle.mcg6_front_top.specs.declared.ending.ListMessage.TheVariants.{Nothing, Ending}

module _ {S K : Type 0} (left : S → Option (List ℕ)) (faults : S → ℕ) (reads : S → Option (List ℕ) → S → Type 0)
    (written : K → Option (List ℕ)) (writes : K → List ℕ → ℕ → K → Type 0) (sink_faults : K → ℕ) (words : List (List ℕ)) (is_quiet is_abandoned : Bool) (said : ListMessage) where
  pub fronts_run : (ending : Option ListRunEnding) (first last : S) (before now : K) → answer_of Mcg6 words ≡ None →
      ListRunsTo left faults reads written writes sink_faults words ending first last before now →
      (is_quiet ≡ true → said ≡ Nothing) → (is_quiet ≡ false → said ≡ Ending ending) →
      ListFronts left faults reads written writes sink_faults words is_quiet is_abandoned (status_in ending) said first last before now
  fronts_run ending first last before now none ran quiet loud = record {
    answers = λ text is. let no : ⊥ = cc (sym none ∙ is) in absurd no;
    runs = λ other. runs_by_status left faults reads written writes sink_faults words ending first last before now ran;
    speaks = λ other is. record { ending = ending; is_said = loud is; of_status = refl; ran = ran };
    quiet = quiet;
  }
