use Rattle.bench_top.proofs.from_mcg6_lines.Counts.{lacks_none}
use Rattle.theorems.proofs.program.selection_law.Goals as goal

pub returns : goal.returns
returns c = lacks_none
