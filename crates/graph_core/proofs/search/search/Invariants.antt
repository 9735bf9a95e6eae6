use Rattle.vset_core.proofs.from_counting.Common.{length, count, mem}
use Rattle.graph_core.specs.Common.{Graph, IsGraph, IsComponentStage, parent_at, depth_at, AreRows}
use Rattle.graph_core.proofs.search.search.Given as goal

abbrev pub invariant-searching : goal.invariant-searching
invariant-searching l = (g : Graph) → IsGraph g → AreRows g l.rows → IsComponentStage g (mem l.fn.removed) (mem l.left) l.parts.items (parent_at l.nodes) (depth_at l.nodes)

abbrev pub decreases-searching : goal.decreases-searching
decreases-searching l = count (length l.rows) (mem l.left)
