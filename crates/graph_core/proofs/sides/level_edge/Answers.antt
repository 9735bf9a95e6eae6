use Rattle.vset_core.proofs.from_counting.Common.{true, arith, length, get_or_default, cases_eq, true≢false}
use Rattle.graph_core.proofs.View.{ends_within}
use Rattle.graph_core.proofs.sides.level_edge.Goals as goal

pub overflow_sub-first : goal.overflow_sub-first
overflow_sub-first c = (ends_within (length c.args.nodes.now) c.args.edges.now c.loop-edge.edge-index (record { a = 0; b = 0 }) c.requires c.loop-edge-test.true).0.0

pub bounds-nodes-edge : goal.bounds-nodes-edge
bounds-nodes-edge c = let w = ends_within (length c.args.nodes.now) c.args.edges.now c.loop-edge.edge-index (record { a = 0; b = 0 }) c.requires c.loop-edge-test.true in omega arith

pub overflow_sub-second : goal.overflow_sub-second
overflow_sub-second c = (ends_within (length c.args.nodes.now) c.args.edges.now c.loop-edge.edge-index (record { a = 0; b = 0 }) c.requires c.loop-edge-test.true).1.0

pub bounds-nodes-edge-in-loop-edge : goal.bounds-nodes-edge-in-loop-edge
bounds-nodes-edge-in-loop-edge c = let w = ends_within (length c.args.nodes.now) c.args.edges.now c.loop-edge.edge-index (record { a = 0; b = 0 }) c.requires c.loop-edge-test.true in omega arith

pub loop-edge-preserved : goal.loop-edge-preserved
loop-edge-preserved c k d h = grind (arith, cases_eq, get_or_default, true≢false)
