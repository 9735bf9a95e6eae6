use Rattle.tree_check.proofs.from_counting.Common.{sym, subst, mem}
use Rattle.graph_core.proofs.Common.{IsMatching}
use Rattle.match_core.specs.Common.{edges_of}
use Rattle.match_core.proofs.MatchingEdges.{rows-matching}
use Rattle.engine_tests.proofs.tests.matchings.repaired.Goals as goal

pub repair-requires-clause-matching : goal.repair-requires-clause-matching
repair-requires-clause-matching c =
    subst (λ xs. IsMatching c.args.graph.now (mem xs) (mem (edges_of c.args.m.now))) (sym c.empty.ensures) (rows-matching c.args.graph.now c.args.m.now c.requires c.keeps_matching.ensures)
