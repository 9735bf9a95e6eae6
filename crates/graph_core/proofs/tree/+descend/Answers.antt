use Rattle.std.proofs.Common.{append_assoc, arith}
use Rattle.graph_core.proofs.Trees.{way_down-step}
use Rattle.graph_core.proofs.tree.+descend.Goals as goal

pub returns-in_ok-push : goal.returns-in_ok-push
returns-in_ok-push t c = grind (arith, append_assoc c.args.walk.now, way_down-step)
