use Rattle.std.proofs.Common.{arith}
use Rattle.allowed_edges.proofs.ShortPaths.{off_size, same_zero}
use Rattle.allowed_edges.proofs.questions.misses_none.Goals as goal

pub overflow_mul-result : goal.overflow_mul-result
overflow_mul-result c = grind (arith, off_size c.args.g.now c.args.met c.args.m.now c.keeps_limits.ensures.multigraph.ends c.rises.ensures c.keeps_matching.ensures c.requires)

pub overflow_add-result : goal.overflow_add-result
overflow_add-result c = grind (arith, off_size c.args.g.now c.args.met c.args.m.now c.keeps_limits.ensures.multigraph.ends c.rises.ensures c.keeps_matching.ensures c.requires)

pub returns : goal.returns
returns c = grind (arith, off_size, same_zero)
