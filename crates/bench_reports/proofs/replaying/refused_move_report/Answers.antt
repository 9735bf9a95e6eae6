use Rattle.bench_reports.proofs.RefusalsTold.{move-told}
use Rattle.bench_reports.proofs.replaying.refused_move_report.Goals as goal

pub invariant_of-result-clause-told : goal.invariant_of-result-clause-told
invariant_of-result-clause-told c =
    let told = rw (c.number_of-number.ensures, c.shown_by-shown.ensures) at c.in_ok-replay_refused.ensures in
    rw c.node_fault_of-fault.ensures (move-told _ _ _ _ _ told)
