-- Separating cuts: both contractions are matching covered (Carvalho, Lucchesi and Murty 2002).
-- Stated by: theorems.
use Rattle.std.specs.Prelude.{◌≡◌, ◌≢◌, ℕ, List, true}
use Rattle.tree_check.specs.from_counting.Common.{Within, Set, none}
use Rattle.graph_core.specs.Common.{Graph, IsCovered, IsPerfect, contracted, edges_in_cut, first_end, second_end, singles, size}
use Rattle.tree_core.specs.Common.{kept_at, merged_at}

-- both contractions at the cut of x are matching covered: that in which the other vertices are one,
-- and that in which the vertices of x are
pub record IsSeparating (g : Graph) (x : List ℕ) : Type 0 where
  pub kept : IsCovered (contracted g (kept_at g.order (singles g.order) x))
  pub merged : IsCovered (contracted g (merged_at g.order (singles g.order) x))

-- each edge that is not a loop is in a perfect matching m with |m ∩ ∂(x)| = 1
abbrev pub IsMetOnce : Graph → Set → Type 0
IsMetOnce g x = (e : ℕ) → Within (size g) e → first_end g e ≢ second_end g e → (m : Set) × IsPerfect g none m × (m e ≡ true) × (edges_in_cut g m x ≡ 1)
