-- Cuts that barriers give (Lovász and Plummer, "Matching Theory", chapter 5; Edmonds, Lovász and
-- Pulleyblank 1982).
-- Stated by: barrier_kit, theorems.
use Rattle.std.specs.Prelude.{◌≡◌, ◌≤◌, ℕ, false}
use Rattle.graph_core.specs.from_counting.Common.{Within, count, Set}
use Rattle.graph_core.specs.Common.{Graph, size, inside, IsClass, joined, IsTight, IsNontrivial}

-- a component of g - s whose cut is tight and nontrivial
pub record BarrierCut (g : Graph) (s : Set) : Type 0 where
  pub vertex : ℕ
  pub within : Within g.order vertex
  pub outside : s vertex ≡ false
  pub tight : IsTight g (joined g s vertex)
  pub nontrivial : IsNontrivial g.order (joined g s vertex)

-- a class B with at least two vertices, no two adjacent, and a component of G - B with at least
-- three vertices
pub record WideClass (g : Graph) : Type 0 where
  pub vertex : ℕ
  pub class : Set
  pub within : Within g.order vertex
  pub is_class : IsClass g vertex class
  pub two : 2 ≤ count g.order class
  pub independent : (e : ℕ) → Within (size g) e → inside g class e ≡ false
  pub beside : ℕ
  pub beside_within : Within g.order beside
  pub outside : class beside ≡ false
  pub three : 3 ≤ count g.order (joined g class beside)
