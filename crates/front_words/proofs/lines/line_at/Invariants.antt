use Rattle.std.proofs.Common.{◌≡◌, ◌-◌, length, slice_get}
use Rattle.line_text.specs.Common.{lines_of}
use Rattle.front_words.proofs.lines.line_at.Given as goal

abbrev pub invariant-passing : goal.invariant-passing
invariant-passing l = slice_get (lines_of l.text) (l.number - 1) ≡ slice_get (lines_of l.rest) l.before

abbrev pub decreases-passing : goal.decreases-passing
decreases-passing l = length l.rest
