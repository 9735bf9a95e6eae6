use Rattle.graph_core.proofs.Common.{singles}
use Rattle.tree_core.proofs.TreePaths.{deepest-path, leaf-path, path-leaf, path-shore, shore-path, within-depth}
use Rattle.tree_core.proofs.laws.tree_paths_law.Goals as goal

pub returns : goal.returns
returns c = record {
  leaf = λ n t q. (leaf-path n (singles n) t q, λ h. path-leaf n h.0 (singles n) t q h.1);
  shore = λ n t x. (shore-path n (singles n) t x, λ h. path-shore n h.0 (singles n) t x h.1 h.2 h.3 h.4);
  within = λ n t q path. within-depth n path (singles n) t q;
  deepest = λ n t. deepest-path n (singles n) t;
}
