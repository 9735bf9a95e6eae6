use Rattle.tree_core.proofs.SwitchSets.{union-is, union-within}
use Rattle.tree_core.proofs.switched_shores.union_of.Goals as goal

pub returns-clause-list : goal.returns-clause-list
returns-clause-list c = union-is c.args.n c.args.x c.args.y c.union-all.result c.rises-3.ensures c.requires.first c.requires.second c.union-all.ensures

pub returns-clause-within : goal.returns-clause-within
returns-clause-within c = union-within c.args.n c.args.x c.args.y c.union-all.result c.rises-3.ensures c.requires.first c.requires.second c.union-all.ensures
