-- What shows that at an edge no pair of vertices is separated.
-- Stated by: tight_cuts.
use Rattle.std.specs.Prelude.{◌≡◌, ℕ, true, List}
use Rattle.graph_core.specs.from_counting.Common.{Within, Set}
use Rattle.graph_core.specs.Common.{Graph, in_cut, size, IsNontrivial, IsTight, Together}
use Rattle.barrier_kit.specs.from_match_search.Common.{numbers}

-- each nontrivial tight set with edge e in its cut holds all of x or nothing of it
abbrev pub IsOneSided : Graph → ℕ → Set → Type 0
IsOneSided g e x = (z : Set) → IsTight g z → IsNontrivial g.order z → in_cut g z e ≡ true → (u v : ℕ) → x u ≡ true → x v ≡ true → z u ≡ z v

-- the edge that the row has at another lies in no perfect matching together with it
abbrev pub LieApart : Graph → List ℕ → Type 0
LieApart g row = (e f : ℕ) → Within (size g) f → numbers row e ≡ f → Together g e f → ⊥
