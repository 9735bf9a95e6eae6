use Rattle.graph_core.proofs.Common.{singles}
use Rattle.tree_core.proofs.Sizes.{leaf_count-cuts, node_count-cuts, length-leaves_at}
use Rattle.tree_core.proofs.laws.tree_sizes_law.Goals as goal

pub returns : goal.returns
returns c = record { leaves = leaf_count-cuts; nodes = node_count-cuts; list = λ n t. length-leaves_at n (singles n) t }
