use Rattle.std.proofs.Common.{arith}
use Rattle.graph_core.proofs.CutLists.{canonical-rises, cut-known, cut-narrow, cut-taken}
use Rattle.graph_core.proofs.cuts.add_cut.Goals.{else-is_nontrivial-via-then-is_nontrivial+else-not-holds, else-is_nontrivial-via-else-is_nontrivial}
use Rattle.graph_core.proofs.cuts.add_cut.Goals as goal

pub is_nontrivial-requires-clause-set : goal.is_nontrivial-requires-clause-set
is_nontrivial-requires-clause-set c = canonical-rises c.args.n c.args.shore c.canonical_shore-shore.result c.canonical_shore-shore.ensures

pub returns-in_ok-push-clause-ok : goal.returns-in_ok-push-clause-ok
returns-in_ok-push-clause-ok c = grind (arith, cut-taken)

pub returns-else-is_nontrivial-clause-ok : goal.returns-else-is_nontrivial-clause-ok
returns-else-is_nontrivial-clause-ok c = grind (arith, else-is_nontrivial-via-then-is_nontrivial+else-not-holds, cut-known, else-is_nontrivial-via-else-is_nontrivial, cut-narrow)
