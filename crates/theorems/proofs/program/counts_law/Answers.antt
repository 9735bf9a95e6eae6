use Rattle.bench_top.proofs.from_mcg6_lines.Counts.{same_counts}
use Rattle.theorems.proofs.program.counts_law.Goals as goal

pub returns : goal.returns
returns c = same_counts
