use Rattle.vset_core.proofs.from_counting.Common.{length, count, mem}
use Rattle.graph_core.specs.Common.{Graph, IsGraph, AreRows}
use Rattle.graph_core.proofs.FoundComponents.{AreFirst}
use Rattle.graph_core.proofs.search.parts_without.Given as goal

abbrev pub invariant-flooding : goal.invariant-flooding
invariant-flooding l = (g : Graph) → IsGraph g → AreRows g l.rows → AreFirst g (mem l.fn.removed) (mem l.left) l.parts.items

abbrev pub decreases-flooding : goal.decreases-flooding
decreases-flooding l = count (length l.rows) (mem l.left)
