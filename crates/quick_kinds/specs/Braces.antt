-- Perfect matchings after deleting two vertices of each side of a bipartite graph: the test for
-- braces (Lovász and Plummer, "Matching Theory").
-- Stated by: quick_kinds, theorems.
use Rattle.std.specs.Prelude.{◌≡◌, ◌≢◌, ℕ, true, false}
use Rattle.graph_core.specs.from_counting.Common.{Within, Set, pair_set, union}
use Rattle.graph_core.specs.Common.{Graph, HasPerfect}

-- {a, c, b, d}, where a and c are on one side and b and d on the other
abbrev pub four_set : (a c b d : ℕ) → Set
four_set a c b d = union (pair_set a c) (pair_set b d)

-- deleting any two vertices of x and any two vertices outside x leaves a graph with a perfect
-- matching
abbrev pub AreFoursMatched : Graph → Set → Type 0
AreFoursMatched g x = (a c b d : ℕ) → Within g.order a → Within g.order c → Within g.order b → Within g.order d → a ≢ c → b ≢ d → x a ≡ true → x c ≡ true → x b ≡ false → x d ≡ false → HasPerfect g (four_set a c b d)
