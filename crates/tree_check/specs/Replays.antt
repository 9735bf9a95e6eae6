-- Replays of scripts: the moves are made in order, and each tree that they make is to be a
-- derivation of the graph.
-- Stated by: tree_check. Used by: bench_outcomes, bench_reports, bench_top, theorems.
use Rattle.std.specs.Prelude.{◌≡◌, ◌⊎◌, ℕ, ◌+◌, List, [], ◌∷◌, Some, None}
use Rattle.graph_core.specs.Common.{Graph}
use Rattle.tree_core.specs.Common.{IsDerivation, PlainMove, TurnsThrough, move_result, Shape, shape_of}
use Rattle.tree_check.specs.Judgements.{why_of}
use Rattle.tree_check.specs.Refusals.{Why, IsRefused}
use Rattle.tree_check.specs.declared.replaying.Replayed.{Replayed}
use Rattle.tree_check.specs.declared.replaying.Replayed.TheVariants as replayed
use Rattle.tree_check.specs.declared.replaying.Moved.{Moved}
use Rattle.tree_check.specs.declared.replaying.Moved.TheVariants as moved

-- the first failing move of the script on s, counted from 1, has no result; each move before it
-- has one that is a derivation of g
abbrev pub IsStuckAt : Graph → Shape → List PlainMove → ℕ → Type 0
IsStuckAt g s [] at = ⊥
IsStuckAt g s (m ∷ ms) at =
    ((at ≡ 1) × (move_result g.order s m ≡ None))
    ⊎ ((r : Shape) × (move_result g.order s m ≡ Some r) × IsDerivation g r × ((j : ℕ) × (at ≡ 1 + j) × IsStuckAt g r ms j))

-- the first failing move of the script on s has a result that is not a derivation of g, and this
-- node with this reason is the first refusal of that tree
abbrev pub IsRefusedMoveAt : Graph → Shape → List PlainMove → (at node : ℕ) → Why → Type 0
IsRefusedMoveAt g s [] at node why = ⊥
IsRefusedMoveAt g s (m ∷ ms) at node why =
    (r : Shape) × (move_result g.order s m ≡ Some r)
    × (((at ≡ 1) × IsRefused g r node why) ⊎ (IsDerivation g r × ((j : ℕ) × (at ≡ 1 + j) × IsRefusedMoveAt g r ms j node why)))

-- the answer to a script on s is right
abbrev pub IsReplay : Graph → Shape → List PlainMove → Replayed → Type 0
IsReplay g s ms (replayed.Done tree) = TurnsThrough g s ms (shape_of tree)
IsReplay g s ms (replayed.Stuck at) = IsStuckAt g s ms at
IsReplay g s ms (replayed.Refused at node why) = IsRefusedMoveAt g s ms at node (why_of why)

-- what one move on s makes, as the code keeps it
abbrev pub IsMoved : Graph → Shape → PlainMove → Moved → Type 0
IsMoved g s m (moved.Passed tree) = (move_result g.order s m ≡ Some (shape_of tree)) × IsDerivation g (shape_of tree)
IsMoved g s m moved.Stuck = move_result g.order s m ≡ None
IsMoved g s m (moved.Refused node why) = (r : Shape) × (move_result g.order s m ≡ Some r) × IsRefused g r node (why_of why)
