-- How the code's ear lists and judgements are seen, as plain data.
-- Stated by: ear_core, ear_text, mcg6_lines, bench_tasks, bench_reports.
use Rattle.std.specs.Prelude.{ℕ, map, Option, Some, None}
use Rattle.ear_core.specs.EarLists.{PlainEar, PlainStep, one, two, PlainEars}
use Rattle.ear_core.specs.EarTests.{PlainWhy, not_path, even_length, bad_ends, inner_on_stage, edge_used, stage_not_covered, ends_early}
use Rattle.ear_core.specs.declared.ears.Ear.{Ear}
use Rattle.ear_core.specs.declared.ears.Step.{Step}
use Rattle.ear_core.specs.declared.ears.EarList.{EarList}
use Rattle.ear_core.specs.declared.judgement.EarWhy.{EarWhy}
use Rattle.ear_core.specs.declared.judgement.EarWhy.TheVariants as why
use Rattle.ear_core.specs.declared.judgement.EarJudgement.{EarJudgement}
use Rattle.ear_core.specs.declared.judgement.EarJudgement.TheVariants as judgement

-- the ear
abbrev pub ear_of : Ear → PlainEar
ear_of ear = record { begin = ear.«from»; edges = ear.edges }

-- one ear, or two
abbrev pub plain_step : PlainEar → Option Ear → PlainStep
plain_step a None = one a
plain_step a (Some b) = two a (ear_of b)

-- the step
abbrev pub step_of : Step → PlainStep
step_of step = plain_step (ear_of step.first) step.second

-- the ear list
abbrev pub ears_of : EarList → PlainEars
ears_of list = record { start = list.start; steps = map step_of list.steps }

-- the reason
abbrev pub why_of : EarWhy → PlainWhy
why_of why.NotPath = not_path
why_of why.EvenLength = even_length
why_of why.BadEnds = bad_ends
why_of why.InnerOnStage = inner_on_stage
why_of why.EdgeUsed = edge_used
why_of (why.StageNotCovered e) = stage_not_covered e
why_of (why.EndsEarly e) = ends_early e

-- the refusal that a judgement names
abbrev pub refusal_of : EarJudgement → Option (ℕ × PlainWhy)
refusal_of judgement.Accepted = None
refusal_of (judgement.Refused step why) = Some (step, why_of why)
