-- The quotient of a graph at a partition as contracts see it: the quotient graph, the blocks that
-- are its vertices, and for each of its edges the edges of the graph between the two blocks.
-- Stated by: contraction.
use Rattle.std.specs.Prelude.{◌≡◌, ℕ, List, map}
use Rattle.graph_core.specs.Common.{Graph, size, IsPartition, edges_between, quotient, IsWithinLimits}

-- the numbers of vertices and edges of the graph, the blocks, the quotient graph and the
-- remembered edges of its edges
pub record ContractedValue : Type 0 where
  pub order : ℕ
  pub size : ℕ
  pub blocks : List (List ℕ)
  pub graph : Graph
  pub edges : List (List ℕ)

-- the quotient of g at p with the remembered edges
abbrev pub contraction : Graph → List (List ℕ) → ContractedValue
contraction g p = record { order = g.order; size = size g; blocks = p; graph = quotient g p; edges = map (λ k. edges_between g p k.0 k.1) (quotient g p).ends }

-- the quotient of some multigraph at some partition
pub record KeepsContraction (q : ContractedValue) : Type 0 where
  pub base : Graph
  pub limits : IsWithinLimits base
  pub partition : IsPartition base.order q.blocks
  pub is : q ≡ contraction base q.blocks
