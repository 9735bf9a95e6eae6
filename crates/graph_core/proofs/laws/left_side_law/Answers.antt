use Rattle.graph_core.proofs.TwoSides.{left_side_only}
use Rattle.graph_core.proofs.laws.left_side_law.Goals as goal

pub returns : goal.returns
returns c = left_side_only
