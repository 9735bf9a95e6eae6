use Rattle.tree_check.proofs.CountedLeaves.{tally-one}
use Rattle.tree_check.proofs.leaf.passed.Goals as goal

pub returns : goal.returns
returns c g p node is = (is.0, tally-one g p c.args.kind c.tallied.result is.1 c.tallied.ensures)
