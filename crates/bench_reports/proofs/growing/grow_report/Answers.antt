use Rattle.move_text.proofs.from_counting.Common.{arith, length-map}
use Rattle.tree_core.proofs.Common.{leaf_count-cuts, length-leaves_at, node_count-cuts, few-nodes}
use Rattle.uncross.specs.Common.{map_of}
use Rattle.bench_outcomes.proofs.GrownSizes.{few-edges, few-vertices}
use Rattle.bench_reports.proofs.growing.grow_report.Goals as goal

pub write_graph-requires-clause-vertices : goal.write_graph-requires-clause-vertices
write_graph-requires-clause-vertices c = grind (arith, few-vertices c.args.growth.seed c.args.growth.pieces c.args.growth.some c.args.growth.few)

pub write_graph-requires-clause-edges : goal.write_graph-requires-clause-edges
write_graph-requires-clause-edges c = grind (arith, few-edges c.args.growth.seed c.args.growth.pieces c.args.growth.some c.args.growth.few)

pub overflow_cast-pairs : goal.overflow_cast-pairs
overflow_cast-pairs c = grind (arith, few-nodes, length-leaves_at, leaf_count-cuts, node_count-cuts, length-map)

pub returns-clause-gives : goal.returns-clause-gives
returns-clause-gives c = grind (arith, length-map c.in_ok-pairing.pairing.maps map_of)
