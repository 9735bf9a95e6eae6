use Rattle.std.proofs.Common.{◌∙◌}
use Rattle.tree_core.proofs.SwitchSets.{outside-test}
use Rattle.tree_core.proofs.switched_shores.is_outside.Goals as goal

pub returns : goal.returns
returns c = c.is_subset.ensures ∙ outside-test c.args.n c.args.v c.args.x c.outside_within.result c.rises.ensures c.outside_within.ensures.members
