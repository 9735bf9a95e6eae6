use Rattle.tree_core.proofs.Shores.{below-greatest}
use Rattle.tree_core.proofs.tree.is_below.Goals as goal

pub returns-in-Some : goal.returns-in-Some
returns-in-Some c = below-greatest 128 c.args.n c.in-Some.v c.args.shore c.rises.ensures c.in-Some.ensures.some
