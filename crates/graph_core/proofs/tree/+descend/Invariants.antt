use Rattle.graph_core.specs.Common.{depth_at}
use Rattle.graph_core.proofs.tree.+descend.Given as goal

abbrev pub decreases-descend : goal.decreases-descend
decreases-descend l = depth_at l.nodes.now l.to
