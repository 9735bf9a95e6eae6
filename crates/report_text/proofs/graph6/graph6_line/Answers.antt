use Rattle.std.proofs.Common.{arith}
use Rattle.report_text.proofs.graph6.graph6_line.Goals as goal

pub returns : goal.returns
returns c = grind arith
