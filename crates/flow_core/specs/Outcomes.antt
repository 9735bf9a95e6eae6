-- The result of a search.
-- Stated by: flow_core.
use Rattle.std.specs.Prelude.{◌≡◌, ℕ, List, ℤ}
use Rattle.flow_core.specs.Nets.{Net}
use Rattle.flow_core.specs.Residual.{IsReachedSet}
use Rattle.flow_core.specs.Search.{IsTree, first_node, last_node}
use Rattle.flow_core.specs.declared.search.SearchOutcome.{SearchOutcome}
use Rattle.flow_core.specs.declared.search.SearchOutcome.TheVariants.{Path, Closed}

-- a search tree that ends at the sink, or the set of all nodes reached, without the sink
abbrev pub IsOutcome : Net → List ℤ → ℕ → ℕ → SearchOutcome → Type 0
IsOutcome net amounts source sink (Path visits) = IsTree net amounts visits.items × (first_node visits.items ≡ source) × (last_node visits.items ≡ sink)
IsOutcome net amounts source sink (Closed set) = IsReachedSet net amounts source sink set
