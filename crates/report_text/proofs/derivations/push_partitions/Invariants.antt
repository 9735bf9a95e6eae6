use Rattle.move_text.proofs.from_counting.Common.{◌≡◌, ◌++◌, ℕ, length, map, string_bytes, Within}
use Rattle.move_text.proofs.from_tree_core.Common.{leaf_at, IsLeafKind, kind_at}
use Rattle.report_text.specs.Common.{numbered_leaf_lines}
use Rattle.report_text.proofs.derivations.push_partitions.Given as goal

-- the lines of the first leaves are written, and their kinds are known
abbrev pub invariant-loop-i : goal.invariant-loop-i
invariant-loop-i l = record {
  so_many : length l.kinds.items ≡ l.i;
  right : (k : ℕ) → Within l.i k → IsLeafKind l.g (leaf_at (map (λ p. p.blocks) l.leaves) k) (kind_at l.kinds.items k);
  lines : string_bytes l.text ≡ string_bytes l.fn.text ++ numbered_leaf_lines l.g (map (λ p. p.blocks) l.leaves) l.kinds.items l.i;
}
