-- A node that is refused is one of its tree; and a refusal of the tree on which moves are made is
-- one of the tree and the moves.
use Rattle.std.proofs.Common.{◌≤◌, ◌<◌, inl, inr, ℕ, List, [], ◌∷◌, Option, Some, None, arith}
use Rattle.graph_core.proofs.Common.{Graph, singles}
use Rattle.tree_core.proofs.Common.{PlainMove, Shape, leaf, cut, kept_at, merged_at, node_count}
use Rattle.bench_outcomes.specs.from_tree_check.Common.{IsRefused, IsRefusedAt, Why}
use Rattle.refusals.specs.declared.refusal.Refusal.{Refusal}
use Rattle.refusals.specs.declared.refusal.Refusal.TheVariants as refusal
use Rattle.bench_outcomes.specs.Common.{IsInMoves, IsInTrees}

-- a node that is refused is one of the tree
refused-within : (g : Graph) (p : List (List ℕ)) (t : Shape) (node : ℕ) (why : Why) → IsRefusedAt g p t node why → (0 < node) × (node ≤ node_count t)
refused-within g p leaf node why refused = let is = refused.0 in (omega arith, omega arith)
refused-within g p (cut x kept merged) node why (inl here) = let is = here.0 in (omega arith, omega arith)
refused-within g p (cut x kept merged) node why (inr (inl below)) = let is = below.1.1 in grind (arith, is, refused-within g (kept_at g.order p x) kept below.1.0 why below.1.2)
refused-within g p (cut x kept merged) node why (inr (inr below)) = let is = below.2.1 in grind (arith, is, refused-within g (merged_at g.order p x) merged below.2.0 why below.2.2)

pub refused-node : (g : Graph) (t : Shape) (node : ℕ) (why : Why) → IsRefused g t node why → (0 < node) × (node ≤ node_count t)
refused-node g t node why refused = refused-within g (singles g.order) t node why refused.refused

-- a refusal of the tree on which moves are made
pub tree-moves : (n : ℕ) (t : Shape) (moves : List PlainMove) (refused : Option Refusal) → IsInTrees (t ∷ []) refused → IsInMoves n t moves refused
tree-moves n t moves None is = tt
tree-moves n t moves (Some (refusal.Graph fault)) is = tt
tree-moves n t moves (Some (refusal.Tree number node place fault)) is = is
tree-moves n t moves (Some (refusal.Ears step place fault)) is = absurd is
tree-moves n t moves (Some (refusal.Stuck step fault)) is = absurd is
tree-moves n t moves (Some (refusal.Move step node place fault)) is = absurd is
