use Rattle.theorems.proofs.Quotients.{bricks-and_braces}
use Rattle.tree_core.proofs.Common.{tight-shores}
use Rattle.theorems.proofs.decompositions.bricks_and_braces_law.Goals as goal

pub returns : goal.returns
returns c = record { cuts = tight-shores; ends = bricks-and_braces }
