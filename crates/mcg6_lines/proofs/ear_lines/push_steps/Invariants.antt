use Rattle.std.proofs.Common.{◌≡◌, ◌++◌, length, map}
use Rattle.std.specs.List.{AllByRecursion}
use Rattle.ear_core.specs.Common.{FitsStep, step_of}
use Rattle.graph_core.proofs.Common.{size}
use Rattle.mcg6_lines.specs.EarLines.{steps_text}
use Rattle.mcg6_lines.proofs.ear_lines.push_steps.Given as goal

-- what is written and the steps left make all steps
abbrev pub invariant-steps : goal.invariant-steps
invariant-steps l = record {
  fits : AllByRecursion (FitsStep l.g.order (size l.g)) (map step_of l.rest);
  whole : l.fn.line.items ++ steps_text l.g (map step_of l.fn.steps) ≡ l.line.items ++ steps_text l.g (map step_of l.rest);
}

abbrev pub decreases-steps : goal.decreases-steps
decreases-steps l = length l.rest
