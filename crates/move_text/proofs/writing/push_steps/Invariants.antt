use Rattle.std.proofs.Common.{◌≡◌, ◌++◌, length, map, string_bytes}
use Rattle.move_text.specs.Common.{letter_of}
use Rattle.move_text.proofs.writing.push_steps.Given as goal

-- what is written and the letters of the steps left make the whole word
abbrev pub invariant-steps : goal.invariant-steps
invariant-steps l = string_bytes l.fn.text ++ map letter_of l.fn.steps ≡ string_bytes l.text ++ map letter_of l.rest

abbrev pub decreases-steps : goal.decreases-steps
decreases-steps l = length l.rest
