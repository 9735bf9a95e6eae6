use Rattle.tree_core.proofs.Common.{node_count, shape_of}
use Rattle.uncross.proofs.comparing.+compare_at.Given as goal

abbrev pub decreases-compare_at : goal.decreases-compare_at
decreases-compare_at l = node_count (shape_of l.second.now)
