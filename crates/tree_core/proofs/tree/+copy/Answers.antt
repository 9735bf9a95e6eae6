use Rattle.std.proofs.Common.{arith}
use Rattle.tree_core.proofs.tree.+copy.Goals as goal

pub returns-in_ok-merged-in-Cut : goal.returns-in_ok-merged-in-Cut
returns-in_ok-merged-in-Cut t c = grind arith
