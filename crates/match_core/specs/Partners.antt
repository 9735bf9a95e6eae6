-- Partners: the vertices that can be missed together (Lovász and Plummer, "Matching Theory",
-- chapter 5).
-- Stated by: match_core, allowed_edges, graph_facts, separation_kit, tight_cuts and 2 more.
-- Used by: barrier_kit.
use Rattle.std.specs.Prelude.{◌≡◌, ℕ, Bool, true, false, List, ◌==◌, ◌&&◌, not, length}
use Rattle.graph_core.specs.from_counting.Common.{Within, Set, pair_set, union, item, mem}
use Rattle.graph_core.specs.Common.{Graph, has_perfect}

-- u and v are two different vertices outside r, and g - r - u - v has a perfect matching
abbrev pub are_partners : Graph → Set → ℕ → ℕ → Bool
are_partners g r u v = not (r u) && not (r v) && not (u == v) && has_perfect g (union r (pair_set u v))

-- n rows, all empty
pub record AreEmptyRows (n : ℕ) (table : List (List ℕ)) : Type 0 where
  pub one_each : length table ≡ n
  pub empty : (u v : ℕ) → Within n u → mem (item table u) v ≡ false

-- there is one row for each vertex, and row u is the set of partners of u in g - r
pub record ArePartners (g : Graph) (r : Set) (table : List (List ℕ)) : Type 0 where
  pub one_each : length table ≡ g.order
  pub within : (u v : ℕ) → Within g.order u → mem (item table u) v ≡ true → Within g.order v
  pub partner_is : (u v : ℕ) → Within g.order u → Within g.order v → mem (item table u) v ≡ are_partners g r u v
