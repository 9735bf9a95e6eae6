-- Paired derivations: a one-to-one pairing of two lists of leaves, with names by which partners are
-- the same leaf.
-- Stated by: move_laws, uncross. Used by: mcg6_lines, bench_outcomes, theorems.
use Rattle.std.specs.Prelude.{◌≡◌, ℕ, ◌==◌, List, length}
use Rattle.graph_core.specs.from_counting.Common.{count, Within}
use Rattle.graph_core.specs.Common.{Graph}
use Rattle.tree_core.specs.Common.{PlainLeafMap, map_at, leaf_at}
use Rattle.move_laws.specs.SameLeaf.{IsSameLeaf}

-- one entry for each leaf of the first list; its places are those of the second, each once, and its
-- names make the two the same leaf
pub record IsPairing (g : Graph) (ps qs : List (List (List ℕ))) (maps : List PlainLeafMap) : Type 0 where
  pub one_each : length maps ≡ length ps
  pub within : (i : ℕ) → Within (length ps) i → Within (length qs) (map_at maps i).to
  pub once : (j : ℕ) → Within (length qs) j → count (length ps) (λ i. (map_at maps i).to == j) ≡ 1
  pub same : (i : ℕ) → Within (length ps) i → IsSameLeaf g (leaf_at ps i) (leaf_at qs (map_at maps i).to) (map_at maps i).images
