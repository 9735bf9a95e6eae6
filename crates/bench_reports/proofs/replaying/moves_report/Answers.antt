use Rattle.std.proofs.Common.{subst, arith}
use Rattle.tree_core.proofs.Common.{fits-derivation, moves_of, shape_of}
use Rattle.bench_outcomes.specs.from_tree_check.Common.{IsReplay, why_of}
use Rattle.bench_outcomes.specs.from_tree_check.declared.replaying.Replayed.{Replayed}
use Rattle.bench_outcomes.proofs.from_tree_check.ReplaySteps.{reached-derivation}
use Rattle.bench_reports.proofs.FaultsPlaced.{refused-node}
use Rattle.bench_reports.proofs.MadeMoves.{made-refused, made-stuck_at}
use Rattle.bench_reports.proofs.replaying.moves_report.Goals as goal

pub last_tree_report-requires-clause-derivation : goal.last_tree_report-requires-clause-derivation
last_tree_report-requires-clause-derivation c = grind (arith, reached-derivation)

-- the copy of the first tree fits as the tree does
pub place_behind-place-requires-clause-fits : goal.place_behind-place-requires-clause-fits
place_behind-place-requires-clause-fits c =
    rw (c.order-in-Refused.ensures.is, c.in_ok-first.ensures) (fits-derivation c.args.c.now (shape_of c.args.tree) c.requires.derivation)

pub fault_of_move-fault-requires-clause-fits : goal.fault_of_move-fault-requires-clause-fits
fault_of_move-fault-requires-clause-fits c =
    rw (c.order.ensures.is, c.in_ok-first.ensures) (fits-derivation c.args.c.now (shape_of c.args.tree) c.requires.derivation)

pub fault_of_move-fault-requires-clause-stuck : goal.fault_of_move-fault-requires-clause-stuck
fault_of_move-fault-requires-clause-stuck c =
    let g = c.args.c.now in
    let moves = moves_of c.args.moves.now in
    let stuck = subst (λ (answer : Replayed). IsReplay g (shape_of c.args.tree) moves answer) c.in-Stuck.is c.in_ok-answer.ensures in
    rw (c.order.ensures.is, c.in_ok-first.ensures) (made-stuck_at g (shape_of c.args.tree) moves c.in-Stuck.at stuck)

pub place_behind-place-requires-clause-node : goal.place_behind-place-requires-clause-node
place_behind-place-requires-clause-node c =
    let g = c.args.c.now in
    let moves = moves_of c.args.moves.now in
    let refused = subst (λ (answer : Replayed). IsReplay g (shape_of c.args.tree) moves answer) c.in-Refused.is c.in_ok-answer.ensures in
    let made = made-refused g (shape_of c.args.tree) moves c.in-Refused.at c.in-Refused.node (why_of c.in-Refused.why) refused in
    let node = refused-node g made.0 c.in-Refused.node (why_of c.in-Refused.why) made.2 in
    rw (c.order-in-Refused.ensures.is, c.in_ok-first.ensures) (made.0, made.1, node.0, node.1)
