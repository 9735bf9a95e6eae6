use Rattle.std.proofs.Common.{◌≡◌, ◌++◌, length}
use Rattle.ear_text.proofs.ear_format.copied.Given as goal

-- the numbers copied and those left make the whole list
abbrev pub invariant-items : goal.invariant-items
invariant-items l = l.items ≡ l.list ++ l.rest

abbrev pub decreases-items : goal.decreases-items
decreases-items l = length l.rest
