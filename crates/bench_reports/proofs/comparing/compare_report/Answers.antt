use Rattle.move_text.proofs.from_counting.Common.{arith, length-map}
use Rattle.tree_core.proofs.Common.{shape_of, fits-derivation, stands-derivation, blocks-of_leaves, few-leaves_listed, few-nodes}
use Rattle.bench_reports.proofs.comparing.compare_report.Goals as goal

pub leaves-requires-clause-fits : goal.leaves-requires-clause-fits
leaves-requires-clause-fits c = grind (arith, fits-derivation c.args.c.now (shape_of c.args.given.now.first) c.requires.first)

pub leaves-requires-clause-stands : goal.leaves-requires-clause-stands
leaves-requires-clause-stands c = grind (arith, stands-derivation c.args.c.now (shape_of c.args.given.now.first) c.requires.first)

pub lines_of-requires-clause-one_each : goal.lines_of-requires-clause-one_each
lines_of-requires-clause-one_each c = grind (arith, blocks-of_leaves, length-map)

pub lines_of-requires-clause-few : goal.lines_of-requires-clause-few
lines_of-requires-clause-few c = grind (arith, few-nodes, few-leaves_listed)

pub returns-clause-gives : goal.returns-clause-gives
returns-clause-gives c = grind (arith, blocks-of_leaves)
