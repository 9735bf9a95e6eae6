use Rattle.std.proofs.Common.{arith}
use Rattle.tight_cuts.proofs.quiet_edges.without_ends.Goals as goal

pub returns : goal.returns
returns c = grind arith
