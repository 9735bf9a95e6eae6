use Rattle.graph_core.proofs.from_counting.Common.{◌+◌, ◌-◌, ◌*◌, length, count, Set, mem}
use Rattle.graph_core.proofs.Common.{Graph}
use Rattle.match_search.specs.Common.{GrowsForest}
use Rattle.match_search.proofs.growing.grow_forest.Given as goal

abbrev pub invariant-growing : goal.invariant-growing
invariant-growing l = (g : Graph) (r f : Set) → GrowsForest g r f l.instance l.mate l.initial.forest → GrowsForest g r f l.instance l.mate l.forest

-- each branch makes one vertex inner, and one active
abbrev pub decreases-growing : goal.decreases-growing
decreases-growing l = 2 * (length l.instance.rows.items - count (length l.instance.rows.items) (mem l.forest.inner)) + count (length l.instance.rows.items) (mem l.forest.active)
