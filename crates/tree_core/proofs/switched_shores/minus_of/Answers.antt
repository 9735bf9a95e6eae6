use Rattle.tree_core.proofs.SwitchSets.{minus-is, minus-within}
use Rattle.tree_core.proofs.switched_shores.minus_of.Goals as goal

pub returns-clause-list : goal.returns-clause-list
returns-clause-list c = minus-is c.args.n c.args.x c.args.y c.minus-left.result c.rises-2.ensures c.requires c.minus-left.ensures

pub returns-clause-within : goal.returns-clause-within
returns-clause-within c = minus-within c.args.n c.args.x c.args.y c.minus-left.result c.rises-2.ensures c.requires c.minus-left.ensures
