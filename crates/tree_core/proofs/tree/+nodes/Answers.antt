use Rattle.std.proofs.Common.{ℕ, arith}
use Rattle.tree_core.specs.Common.{node_count, shape_of}
use Rattle.tree_core.specs.declared.tree.Tree.{Tree}
use Rattle.tree_core.proofs.tree.+nodes.Goals as goal

abbrev nodes_of : Tree → ℕ
nodes_of tree = node_count (shape_of tree)

pub returns-in-Cut : goal.returns-in-Cut
returns-in-Cut t c = grind arith
