-- Which bipartite covered graphs are braces? The theorem on braces: there is no nontrivial tight
-- cut if and only if deleting any two vertices of each side leaves a graph with a perfect matching.
use Rattle.graph_core.proofs.from_counting.Common.{◌↔◌, arith, Set}
use Rattle.graph_core.proofs.Common.{IsSide, IsCovered, Graph, IsGraph, IsTight, IsNontrivial}
use Rattle.quick_kinds.specs.Braces.{AreFoursMatched}
use Rattle.quick_kinds.proofs.MatchedFours.{no_tight}
use Rattle.quick_kinds.proofs.UnmatchedFours.{matched_or_tight}

module _ (g : Graph) (is : IsGraph g) (cov : IsCovered g) where
  -- the theorem on braces
  pub braces : (x : Set) → IsSide g x → ((y : Set) → IsTight g y → IsNontrivial g.order y → ⊥) ↔ AreFoursMatched g x
  braces x two = grind (arith, matched_or_tight g is cov x two, no_tight g is cov x two)
