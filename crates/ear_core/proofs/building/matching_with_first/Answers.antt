use Rattle.std.proofs.Common.{arith}
use Rattle.ear_core.proofs.Stepping.{covered-allowed, covered-edge}
use Rattle.ear_core.proofs.building.matching_with_first.Goals as goal

pub unreachable-requires : goal.unreachable-requires
unreachable-requires c = grind (arith, covered-allowed, covered-edge)

pub perfect_with_edge-requires-clause-edge : goal.perfect_with_edge-requires-clause-edge
perfect_with_edge-requires-clause-edge c = grind (arith, covered-edge)

pub returns-clause-edge : goal.returns-clause-edge
returns-clause-edge c = grind (arith, covered-edge)
