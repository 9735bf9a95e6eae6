use Rattle.std.proofs.Common.{◌≡◌}
use Rattle.engine_tests.proofs.tests.nets.net_of.Given as goal

abbrev pub invariant-loop-a : goal.invariant-loop-a
invariant-loop-a l = l.net.nodes ≡ 5
