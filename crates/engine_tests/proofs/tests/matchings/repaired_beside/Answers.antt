use Rattle.engine_tests.proofs.tests.matchings.repaired_beside.Goals as goal

pub repaired-requires : goal.repaired-requires
repaired-requires c = c.in_ok-rest-in-Some.ensures.of c.args.graph.now (c.in_ok-perfect_with.ensures.of c.in-Some.whole c.in-Some.is)
