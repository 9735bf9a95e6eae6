use Rattle.vset_core.proofs.from_counting.Common.{◌≡◌, ◌+◌, ◌*◌, ℕ, length, false, Within, count, mem}
use Rattle.graph_core.specs.Common.{Graph, IsGraph, IsGrowth, node_at, parent_at, depth_at, AreRows}
use Rattle.graph_core.proofs.search.grow.Given as goal

abbrev pub invariant-growing : goal.invariant-growing
invariant-growing l = record {
  growth : (g : Graph) → IsGraph g → AreRows g l.rows → IsGrowth g (mem l.fn.within) l.root (mem l.left) (mem l.«open») (parent_at l.nodes) (depth_at l.nodes);
  kept : (v : ℕ) → Within (length l.rows) v → mem l.fn.within v ≡ false → node_at l.nodes v ≡ node_at l.fn.nodes v;
}

abbrev pub decreases-growing : goal.decreases-growing
decreases-growing l = 2 * count (length l.rows) (mem l.left) + count (length l.rows) (mem l.«open»)
