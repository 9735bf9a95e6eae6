use Rattle.std.proofs.Common.{arith}
use Rattle.bench_reports.proofs.ear_checking.refused_report.Goals as goal

pub returns-clause-gives : goal.returns-clause-gives
returns-clause-gives c = grind arith
