use Rattle.allowed_edges.proofs.from_counting.Common.{arith, mem}
use Rattle.plain_graph.proofs.Tries.{has_perfect-list}
use Rattle.plain_graph.proofs.matchings.has_perfect.Goals as goal

pub returns : goal.returns
returns c = grind (arith, has_perfect-list c.args.graph.now (mem c.args.removed))
