use Rattle.std.proofs.Common.{◌∙◌}
use Rattle.tree_core.proofs.RotateSteps.{apart-test}
use Rattle.tree_core.proofs.rotation.are_apart.Goals as goal

pub returns : goal.returns
returns c = c.is_subset.ensures ∙ apart-test c.args.x c.args.y c.minus.result c.minus.ensures
