-- Which arcs have an end at which node.
-- Stated by: flow_core.
use Rattle.std.specs.Prelude.{◌≡◌, ℕ, suc, ◌<◌, ◌⊎◌, List, length, All, Contains}
use Rattle.vset_core.specs.from_counting.Common.{row_of}
use Rattle.flow_core.specs.Nets.{Arc, Net}
use Rattle.flow_core.specs.Residual.{arc_at}

-- v is an end of the arc
abbrev pub HasEnd : Arc → ℕ → Type 0
HasEnd arc v = (arc.a ≡ v) ⊎ (arc.b ≡ v)

-- a row for each node, including 0; the row of v lists those of the first n arcs that have an end
-- at v
pub record ListsArcs (net : Net) (n : ℕ) (rows : List (List ℕ)) : Type 0 where
  pub size : length rows ≡ suc net.nodes
  pub ends : (v : ℕ) → All (λ i. (i < n) × HasEnd (arc_at net.arcs i) v) (row_of rows v)
  pub at_a : (i : ℕ) → i < n → Contains (row_of rows (arc_at net.arcs i).a) i
  pub at_b : (i : ℕ) → i < n → Contains (row_of rows (arc_at net.arcs i).b) i

-- the rows list all arcs of the net by their ends
abbrev pub IsIncidence : Net → List (List ℕ) → Type 0
IsIncidence net rows = ListsArcs net (length net.arcs) rows
