-- What is answered of a step.
-- Stated by: ear_core.
use Rattle.std.specs.Prelude.{◌≡◌, ℕ, Option, Some, None}
use Rattle.graph_core.specs.from_counting.Common.{Set}
use Rattle.graph_core.specs.Common.{Graph}
use Rattle.ear_core.specs.EarLists.{PlainStep, next_stage}
use Rattle.ear_core.specs.Refusals.{IsStepRefused, step_fault}
use Rattle.ear_core.specs.Stages.{IsStage}
use Rattle.ear_core.specs.View.{why_of}
use Rattle.ear_core.specs.declared.judgement.EarWhy.{EarWhy}

-- the step is refused on the stage f for the reason that is answered, or it leads to the stage
-- `new`
abbrev pub IsTaken : Graph → Set → PlainStep → Set → Option EarWhy → Type 0
IsTaken g f s new (Some why) = IsStepRefused g f s (why_of why)
IsTaken g f s new None = (step_fault g f s ≡ None) × IsStage g (next_stage f s) × ((i : ℕ) → new i ≡ next_stage f s i)
