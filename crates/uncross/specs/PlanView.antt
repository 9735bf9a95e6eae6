-- How the code's plans are seen, as plain data.
-- Stated by: uncross.
use Rattle.uncross.specs.Plans.{PlainPlan, crossing, here, in_kept, in_merged}
use Rattle.uncross.specs.declared.plans.Plan.{Plan}
use Rattle.uncross.specs.declared.plans.Plan.TheVariants as code

-- the plan
abbrev pub plan_of : Plan → PlainPlan
plan_of code.Here = here
plan_of code.InKept = in_kept
plan_of code.InMerged = in_merged
plan_of (code.Crossing u v inner outer) = crossing u v inner outer
