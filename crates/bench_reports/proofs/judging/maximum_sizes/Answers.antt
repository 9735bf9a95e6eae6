use Rattle.std.proofs.Common.{arith}
use Rattle.bench_reports.proofs.Sizes.{ends_within, has_maximum}
use Rattle.bench_reports.proofs.judging.maximum_sizes.Goals as goal

pub overflow_cast-edges : goal.overflow_cast-edges
overflow_cast-edges c = grind (arith, ends_within)

pub overflow_mul-result : goal.overflow_mul-result
overflow_mul-result c = grind (arith, ends_within)

pub overflow_sub-result : goal.overflow_sub-result
overflow_sub-result c = grind (arith, ends_within)

pub returns : goal.returns
returns c = grind (arith, has_maximum)
