use Rattle.std.proofs.Common.{arith}
use Rattle.tight_cuts.proofs.BipartiteShores.{nothing_at, inseparable_none}
use Rattle.tight_cuts.proofs.bipartite.FloodSearchEdgeSearch.shore_of_edge.Goals as goal

pub returns-then-is_inseparable-clause-shore : goal.returns-then-is_inseparable-clause-shore
returns-then-is_inseparable-clause-shore c = grind (arith, nothing_at, inseparable_none)
