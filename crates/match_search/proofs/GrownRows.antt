-- A set with one more member. Idea: the disjunction with "v is w" and the set changed at v to true
-- agree at each w, by the two values of that test.
use Rattle.graph_core.proofs.from_counting.Common.{◌≡◌, ℕ, true, ◌==◌, ◌||◌, arith, Set, put}

-- a set with v added is the set put true at v
pub with_put : (x : Set) (v w : ℕ) → (x w || (v == w)) ≡ put x v true w
with_put x v w = grind arith
