use Rattle.std.proofs.Common.{arith}
use Rattle.bench_reports.proofs.judging.analysis_lines.Goals as goal

pub returns : goal.returns
returns c = grind arith
