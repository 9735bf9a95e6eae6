use Rattle.std.proofs.Common.{arith}
use Rattle.graph_core.proofs.Common.{singles}
use Rattle.tree_core.proofs.Common.{shape_of, fits-derivation, stands-derivation, few-nodes}
use Rattle.bench_outcomes.proofs.DerivationTexts.{has-vertices}
use Rattle.bench_reports.proofs.replaying.last_tree_report.Goals as goal

pub write_tree-requires-clause-fits : goal.write_tree-requires-clause-fits
write_tree-requires-clause-fits c = grind (arith, fits-derivation c.args.g.now (shape_of c.args.tree.now) c.requires.derivation)

pub write_tree-requires-clause-vertices : goal.write_tree-requires-clause-vertices
write_tree-requires-clause-vertices c =
    has-vertices c.args.g.now.order (singles c.args.g.now.order) (shape_of c.args.tree.now) (stands-derivation c.args.g.now (shape_of c.args.tree.now) c.requires.derivation)

pub write_tree-requires-clause-few : goal.write_tree-requires-clause-few
write_tree-requires-clause-few c = few-nodes c.args.g.now (shape_of c.args.tree.now) c.keeps_limits.ensures.multigraph.ends c.keeps_limits.ensures.vertices c.requires.derivation
