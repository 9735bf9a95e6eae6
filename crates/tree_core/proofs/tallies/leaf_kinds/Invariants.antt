use Rattle.graph_core.proofs.from_counting.Common.{◌≡◌, ℕ, length, map, Within}
use Rattle.tree_core.specs.Common.{leaf_at, IsLeafKind, kind_at}
use Rattle.tree_core.proofs.tallies.leaf_kinds.Given as goal

-- the kinds of the first leaves are known
abbrev pub invariant-loop-i : goal.invariant-loop-i
invariant-loop-i l = record {
  so_many : length l.kinds.items ≡ l.i;
  right : (k : ℕ) → Within l.i k → IsLeafKind l.g (leaf_at (map (λ p. p.blocks) l.leaves) k) (kind_at l.kinds.items k);
}
