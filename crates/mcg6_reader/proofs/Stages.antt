-- The stages of a list that is processed as it is read: a chain of steps takes one more at its end,
-- and what the last lines give is what the list gives there.
use Rattle.std.proofs.Common.{inr, ℕ, zero, suc, List, [], refl, sym, subst, ◌∙◌, ap, Option}
use Rattle.outside.proofs.Pieces.{appended-nil}
use Rattle.line_text.specs.declared.faults.FaultKind.{FaultKind}
use Rattle.mcg6_reader.specs.declared.ending.InputEnding.{InputEnding}
use Rattle.mcg6_reader.specs.declared.ending.InputEnding.TheVariants.{Done, Bad, ReadFault, WriteFault, Memory}
use Rattle.mcg6_reader.specs.declared.place.LinePlace.{LinePlace}
use Rattle.mcg6_reader.specs.Common.{Appended, WroteUpTo, Stage, Step, Steps, IsStream}

-- one more step
pub steps_more :
    {S K : Type 0} (tells : LinePlace → List ℕ → List ℕ → Type 0) (reads : S → Option (List ℕ) → S → Type 0)
    (writes : K → List ℕ → ℕ → K → Type 0) (count : ℕ) (first mid last : Stage S K) →
    Steps tells reads writes count first mid → Step tells reads writes mid last → Steps tells reads writes (suc count) first last
steps_more {S} {K} tells reads writes zero first mid last steps step =
    (last, (subst (λ (s : Stage S K). Step tells reads writes s last) steps step, refl))
steps_more tells reads writes (suc count) first mid last steps step =
    (steps.0, (steps.1.0, steps_more tells reads writes count steps.0 mid last steps.1.1 step))

-- what was written up to an ending, seen otherwise
pub wrote_otherwise :
    {K : Type 0} (written : K → Option (List ℕ)) (writes : K → List ℕ → ℕ → K → Type 0) (gives other : InputEnding → List ℕ → Type 0) →
    ((ending : InputEnding) (output : List ℕ) → gives ending output → other ending output) →
    (ending : InputEnding) (first last : K) → WroteUpTo written writes gives ending first last →
    WroteUpTo written writes other ending first last
wrote_otherwise written writes gives other so Done first last wrote = record {
  output = wrote.output;
  right = so Done wrote.output wrote.right;
  now = wrote.now;
  whole = wrote.whole;
}
wrote_otherwise written writes gives other so (Bad found) first last wrote = record {
  output = wrote.output;
  right = so (Bad found) wrote.output wrote.right;
  now = wrote.now;
  whole = wrote.whole;
}
wrote_otherwise written writes gives other so ReadFault first last wrote = wrote
wrote_otherwise written writes gives other so WriteFault first last wrote = record {
  whole = wrote.whole;
  count = wrote.count;
  right = so WriteFault _ wrote.right;
  now = wrote.now;
  cut = wrote.cut;
}
wrote_otherwise written writes gives other so Memory first last wrote = wrote

-- what was written up to an ending, by its bytes alone
pub wrote_appended :
    {K : Type 0} (written : K → Option (List ℕ)) (writes : K → List ℕ → ℕ → K → Type 0) (gives : InputEnding → List ℕ → Type 0) →
    gives Memory [] → (ending : InputEnding) (first last : K) → WroteUpTo written writes gives ending first last →
    Appended (gives ending) (written first) (written last)
wrote_appended written writes gives none Done first last wrote =
    record { output = wrote.output; right = wrote.right; written = wrote.now }
wrote_appended written writes gives none (Bad found) first last wrote =
    record { output = wrote.output; right = wrote.right; written = wrote.now }
wrote_appended written writes gives none ReadFault first last wrote = absurd wrote
wrote_appended written writes gives none WriteFault first last wrote =
    record { output = _; right = wrote.right; written = wrote.now }
wrote_appended written writes gives none Memory first last wrote =
    record { output = []; right = none; written = ap written wrote ∙ sym (appended-nil (written first)) }

-- nothing was read or written
pub unread :
    {S K : Type 0} (tells : LinePlace → List ℕ → List ℕ → Type 0) (bad : LinePlace → List ℕ → FaultKind → Type 0) (lacks : ℕ → Option FaultKind)
    (reads : S → Option (List ℕ) → S → Type 0) (written : K → Option (List ℕ)) (writes : K → List ℕ → ℕ → K → Type 0) (source : S) (sink : K) →
    IsStream tells bad lacks reads written writes Memory source sink source sink
unread tells bad lacks reads written writes source sink = record {
  count = 0;
  last = record { read = []; output = []; source = source; sink = sink };
  steps = refl;
  ends = inr (inr (record { memory = refl; same_source = refl; same_sink = refl }));
}
