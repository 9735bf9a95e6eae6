use Rattle.allowed_edges.proofs.from_counting.Common.{arith, both_ways}
use Rattle.graph_core.proofs.Common.{reason-uncovered}
use Rattle.plain_graph.proofs.asked.is_covered.Goals as goal

pub returns-in-NotCovered : goal.returns-in-NotCovered
returns-in-NotCovered c = grind (arith, both_ways, reason-uncovered)
