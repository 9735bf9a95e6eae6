use Rattle.std.proofs.Common.{◌≡◌, ◌++◌, length, map, string_bytes}
use Rattle.graph_core.specs.from_line_text.Common.{written}
use Rattle.ear_core.specs.Common.{step_of}
use Rattle.ear_text.specs.Writing.{step_words}
use Rattle.ear_text.proofs.writing.push_steps.Given as goal

-- what is written and the steps left make the whole text
abbrev pub invariant-steps : goal.invariant-steps
invariant-steps l = string_bytes l.fn.text ++ written (step_words (map step_of l.fn.steps)) ≡ string_bytes l.text ++ written (step_words (map step_of l.rest))

abbrev pub decreases-steps : goal.decreases-steps
decreases-steps l = length l.rest
