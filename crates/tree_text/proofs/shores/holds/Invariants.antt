use Rattle.counting.proofs.Common.{◌≡◌, length, mem}
use Rattle.tree_text.proofs.shores.holds.Given as goal

-- n is among those left if and only if it is among all
abbrev pub invariant-numbers : goal.invariant-numbers
invariant-numbers l = mem l.vertices l.n ≡ mem l.rest l.n

abbrev pub decreases-numbers : goal.decreases-numbers
decreases-numbers l = length l.rest
