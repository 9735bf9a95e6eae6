use Rattle.tree_core.proofs.SwitchSets.{outer_rest-is, outer_rest-within}
use Rattle.tree_core.proofs.switched_shores.outer_rest_of.Goals as goal

pub returns-clause-list : goal.returns-clause-list
returns-clause-list c = outer_rest-is c.args.n c.args.x c.args.v c.outside_within.result c.minus-rest.result c.rises.ensures c.requires c.outside_within.ensures.rising c.outside_within.ensures.members c.rises-2.ensures c.minus-rest.ensures

pub returns-clause-within : goal.returns-clause-within
returns-clause-within c = outer_rest-within c.args.n c.args.x c.args.v c.outside_within.result c.minus-rest.result c.rises.ensures c.requires c.outside_within.ensures.rising c.outside_within.ensures.members c.rises-2.ensures c.minus-rest.ensures
