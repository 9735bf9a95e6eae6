use Rattle.std.proofs.Common.{◌≡◌, ◌++◌, length, map}
use Rattle.move_text.specs.Common.{side_of}
use Rattle.move_text.proofs.move_words.read_steps.Given as goal

-- the steps read and those that the letters left write are all steps
abbrev pub invariant-letters : goal.invariant-letters
invariant-letters l = map side_of l.letters ≡ l.path ++ map side_of l.rest

abbrev pub decreases-letters : goal.decreases-letters
decreases-letters l = length l.rest
