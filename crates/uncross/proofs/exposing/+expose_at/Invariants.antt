use Rattle.tree_core.proofs.Common.{node_count, shape_of}
use Rattle.uncross.proofs.exposing.+expose_at.Given as goal

abbrev pub decreases-expose_at : goal.decreases-expose_at
decreases-expose_at l = node_count (shape_of l.tree)
