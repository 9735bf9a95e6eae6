use Rattle.graph_core.proofs.from_counting.Common.{◌≡◌, length, mem}
use Rattle.ear_core.proofs.faults.holds.Given as goal

abbrev pub invariant-numbers : goal.invariant-numbers
invariant-numbers l = mem l.numbers l.n ≡ mem l.rest l.n

abbrev pub decreases-numbers : goal.decreases-numbers
decreases-numbers l = length l.rest
