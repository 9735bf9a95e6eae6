-- Partitions as contracts see them: the number of vertices and the blocks; and the unions of
-- blocks among the sets.
-- Stated by: contraction, tree_core. Used by: tree_check, uncross, report_text, bench_reports.
use Rattle.std.specs.Prelude.{ℕ, ◌≤◌, List}
use Rattle.graph_core.specs.from_counting.Common.{mem, IsRisingIn}
use Rattle.graph_core.specs.Common.{IsPartition, IsUnion}

-- the number of vertices, and the blocks in increasing order of their names
pub record PartitionValue : Type 0 where
  pub order : ℕ
  pub blocks : List (List ℕ)

-- a partition of at most 128 vertices
pub record KeepsPartition (p : PartitionValue) : Type 0 where
  pub few : p.order ≤ 128
  pub partition : IsPartition p.order p.blocks

-- a set of vertices that is a union of blocks
pub record IsUnionAt (p : PartitionValue) (x : List ℕ) : Type 0 where
  pub set : IsRisingIn p.order x
  pub union : IsUnion p.order p.blocks (mem x)
