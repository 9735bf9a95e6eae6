-- The exchange of two blocks between a tight shore and its complement.
-- Stated by: move_laws.
use Rattle.std.specs.Prelude.{◌≡◌, ℕ, true, false, List}
use Rattle.graph_core.specs.from_counting.Common.{Within, Set, union, minus, complement}
use Rattle.graph_core.specs.Common.{Graph, IsTightAt}
use Rattle.tree_core.specs.Common.{IsBlockOf}

-- a tight shore x with a block u inside and a block v outside, such that the set of u and
-- everything outside x and v is tight too
pub record Corner (g : Graph) (p : List (List ℕ)) (x u v : Set) (s t : ℕ) : Type 0 where
  pub shore : IsTightAt g p x
  pub left : IsBlockOf g.order p u s
  pub right : IsBlockOf g.order p v t
  pub inside : (w : ℕ) → Within g.order w → u w ≡ true → x w ≡ true
  pub outside : (w : ℕ) → Within g.order w → v w ≡ true → x w ≡ false
  pub new : IsTightAt g p (union (minus (complement x) v) u)
