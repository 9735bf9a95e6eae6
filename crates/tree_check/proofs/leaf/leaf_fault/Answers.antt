use Rattle.tree_core.proofs.Common.{IsLeafAt}
use Rattle.tree_check.proofs.leaf.leaf_fault.Goals as goal

pub returns-in-None-clause-none : goal.returns-in-None-clause-none
unfolding IsLeafAt
returns-in-None-clause-none c none = c.in_ok-found.ensures.none.0 c.in-None.is
