use Rattle.allowed_edges.proofs.from_counting.Common.{arith, ne_eqb, mem}
use Rattle.graph_core.proofs.Common.{right_degree}
use Rattle.plain_graph.proofs.Tries.{every_not}
use Rattle.plain_graph.proofs.degrees.is_perfect.Goals as goal

pub returns-then-degree-wanted_at : goal.returns-then-degree-wanted_at
returns-then-degree-wanted_at c = grind (arith, every_not c.args.graph.now.order (right_degree c.args.graph.now (mem c.args.removed) (mem c.args.edges)), ne_eqb)
