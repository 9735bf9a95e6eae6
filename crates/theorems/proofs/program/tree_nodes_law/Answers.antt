use Rattle.graph_core.proofs.Common.{singles}
use Rattle.theorems.proofs.TreeNodes.{cut_paths, cut_paths-lists, cut_paths-shores, leaf_paths, leaf_paths-leaves, leaf_paths-lists, length-cut_paths, length-leaf_paths, length-node_paths, node_paths, node_paths-lists}
use Rattle.theorems.proofs.program.tree_nodes_law.Goals as goal

pub returns : goal.returns
returns c = record {
  nodes = λ n t. (node_paths t, length-node_paths t, node_paths-lists n (singles n) t);
  leaves = λ n t. (leaf_paths t, length-leaf_paths t, leaf_paths-lists n (singles n) t, leaf_paths-leaves n (singles n) t);
  cuts = λ n t. (cut_paths t, length-cut_paths t, cut_paths-lists n (singles n) t, cut_paths-shores n (singles n) t);
}
