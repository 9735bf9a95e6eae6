use Rattle.graph_core.proofs.from_counting.Common.{ℕ, ◌+◌, ◌-◌, length, Set}
use Rattle.graph_core.proofs.Common.{graph_of}
use Rattle.match_search.specs.Common.{IsWalk}
use Rattle.match_core.specs.Common.{StartsWalk}
use Rattle.match_core.proofs.repairs.walk.Given as goal

abbrev pub invariant-walking : goal.invariant-walking
invariant-walking l = (n : ℕ) (r m w : Set) → StartsWalk n r m w l.ends l.at l.other l.x → IsWalk (graph_of n l.ends) r m w l.x l.edges.items l.v

abbrev pub decreases-walking : goal.decreases-walking
decreases-walking l = length l.at + 1 - length l.edges.items
