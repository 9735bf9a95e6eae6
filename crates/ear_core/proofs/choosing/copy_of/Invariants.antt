use Rattle.std.proofs.Common.{◌≡◌, ◌++◌, length}
use Rattle.ear_core.proofs.choosing.copy_of.Given as goal

-- the edges copied and those left make the whole list
abbrev pub invariant-edges : goal.invariant-edges
invariant-edges l = l.fn.ear.edges ≡ l.edges ++ l.rest

abbrev pub decreases-edges : goal.decreases-edges
decreases-edges l = length l.rest
