use Rattle.allowed_edges.proofs.from_counting.Common.{arith, lt-leb, mem}
use Rattle.graph_core.proofs.Common.{fits_at}
use Rattle.plain_graph.proofs.Tries.{every_not}
use Rattle.plain_graph.proofs.degrees.is_matching.Goals as goal

pub returns-then-degree-wanted_at : goal.returns-then-degree-wanted_at
returns-then-degree-wanted_at c = grind (arith, every_not c.args.graph.now.order (fits_at c.args.graph.now (mem c.args.removed) (mem c.args.edges)), lt-leb)
