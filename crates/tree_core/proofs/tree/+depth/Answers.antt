use Rattle.std.proofs.Common.{ℕ, arith}
use Rattle.tree_core.specs.Common.{depth, shape_of}
use Rattle.tree_core.specs.declared.tree.Tree.{Tree}
use Rattle.tree_core.proofs.tree.+depth.Goals as goal

abbrev depth_of : Tree → ℕ
depth_of tree = depth (shape_of tree)

pub returns-in-Cut : goal.returns-in-Cut
returns-in-Cut t c = grind arith
