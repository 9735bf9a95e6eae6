use Rattle.std.proofs.Common.{arith}
use Rattle.tree_core.proofs.Common.{shape_of}
use Rattle.bench_outcomes.specs.from_tree_check.Common.{why_of}
use Rattle.bench_reports.proofs.FaultsPlaced.{refused-node}
use Rattle.bench_reports.proofs.RefusalsTold.{tree-told}
use Rattle.bench_reports.proofs.checking.refused_report.Goals as goal

pub returns-clause-gives : goal.returns-clause-gives
returns-clause-gives c = grind arith

pub invariant_of-result-clause-told : goal.invariant_of-result-clause-told
invariant_of-result-clause-told c =
    let told = rw (c.number_of.ensures, c.shown_by.ensures) at c.in_ok-judgement.ensures in
    rw c.node_fault_of.ensures (tree-told _ _ _ _ _ told)

pub node_place-requires-clause-counted : goal.node_place-requires-clause-counted
node_place-requires-clause-counted c = (refused-node c.args.g.now (shape_of c.args.tree.now) c.args.node (why_of c.args.why) c.requires).0

pub node_place-requires-clause-within : goal.node_place-requires-clause-within
node_place-requires-clause-within c = (refused-node c.args.g.now (shape_of c.args.tree.now) c.args.node (why_of c.args.why) c.requires).1
