use Rattle.std.proofs.Common.{arith}
use Rattle.graph_core.proofs.Common.{reason-uncovered, reason_of}
use Rattle.bench_reports.proofs.RefusalsTold.{cover-told}
use Rattle.bench_reports.proofs.uncovered.uncovered_report.Goals as goal

pub returns-clause-gives : goal.returns-clause-gives
returns-clause-gives c = grind (arith, reason-uncovered c.args.g.now (reason_of c.args.reason) c.keeps_limits.ensures.multigraph c.requires)

pub invariant_of-result-clause-told : goal.invariant_of-result-clause-told
invariant_of-result-clause-told c = rw c.cover_fault_of-fault.ensures (cover-told _ _ c.in_ok-bytes.ensures)
