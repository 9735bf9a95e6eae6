-- Where the fault of a refused input is: at a node of a tree, whose place is the path to it and the
-- shore of its cut, or at an ear and an edge of a step of a list of ears.
-- Stated by: bench_reports, bench_top.
use Rattle.std.specs.Prelude.{◌≡◌, ◌≤◌, ◌<◌, ℕ, zero, suc, ◌+◌, true, List, [], ◌∷◌, ◌++◌, length, slice_get, option_and_then, if◌then◌else◌, Option, Some, None}
use Rattle.tree_check.specs.from_counting.Common.{Set, mem}
use Rattle.graph_core.specs.Common.{Graph}
use Rattle.tree_core.specs.Common.{PlainMove, Shape, leaf, cut, move_result, node_count}
use Rattle.tree_core.specs.declared.path.Side.{Side}
use Rattle.tree_core.specs.declared.path.Side.TheVariants.{Kept, Merged}
use Rattle.bench_tasks.specs.from_ear_core.Common.{PlainEars, fault_place}
use Rattle.refusals.specs.declared.places.NodePlace.{NodePlace}
use Rattle.refusals.specs.declared.refusal.Refusal.{Refusal}
use Rattle.refusals.specs.declared.refusal.Refusal.TheVariants as refusal
use Rattle.bench_outcomes.specs.StuckMoves.{IsStuckBy}
use Rattle.bench_tasks.specs.Common.{Task}
use Rattle.bench_tasks.specs.Tasks as task

-- the path of so many steps: those whose numbers are in the set, counted from 1, lead to the tree
-- where the shore is one block, and the others to the tree where its complement is
abbrev pub steps_to : (merged : Set) → (depth : ℕ) → List Side
steps_to merged zero = []
steps_to merged (suc step) = steps_to merged step ++ ((if merged (suc step) then Merged else Kept) ∷ [])

-- the path from the root to the place
abbrev pub path_to_place : NodePlace → List Side
path_to_place place = steps_to (mem place.merged) place.depth

-- the tree at the end of a path
abbrev pub subtree_at : List Side → Shape → Option Shape
subtree_at [] t = Some t
subtree_at (side ∷ path) leaf = None
subtree_at (Kept ∷ path) (cut x kept merged) = subtree_at path kept
subtree_at (Merged ∷ path) (cut x kept merged) = subtree_at path merged

-- how many nodes come before the end of a path in preorder
abbrev pub nodes_before : List Side → Shape → ℕ
nodes_before [] t = 0
nodes_before (side ∷ path) leaf = 0
nodes_before (Kept ∷ path) (cut x kept merged) = 1 + nodes_before path kept
nodes_before (Merged ∷ path) (cut x kept merged) = 1 + node_count kept + nodes_before path merged

-- the shore of the cut at the root; a leaf has none
abbrev pub root_shore : Shape → Option (List ℕ)
root_shore leaf = None
root_shore (cut x kept merged) = Some x

-- the place of a node to which this path leads: none if the path has more than 128 steps
abbrev pub IsPlaceAt : List Side → (node : Shape) → Option NodePlace → Type 0
IsPlaceAt path node None = 128 < length path
IsPlaceAt path node (Some place) =
    (path_to_place place ≡ path) × ((step : ℕ) → mem place.merged step ≡ true → step ≤ place.depth) × (place.shore ≡ root_shore node)

-- the place of the node with this number in preorder, counted from 1
pub record IsNodePlace (t : Shape) (number : ℕ) (place : Option NodePlace) : Type 0 where
  pub path : List Side
  pub node : Shape
  pub at : subtree_at path t ≡ Some node
  pub counted : number ≡ 1 + nodes_before path t
  pub is : IsPlaceAt path node place

-- the tree with this number, counted from 1
abbrev pub tree_numbered : List Shape → ℕ → Option Shape
tree_numbered trees zero = None
tree_numbered trees (suc before) = slice_get trees before

-- the tree that the first moves make, so many of them, of a tree over 1 to n
abbrev pub made_by : (n : ℕ) → Shape → List PlainMove → (count : ℕ) → Option Shape
made_by n t moves zero = Some t
made_by n t [] (suc count) = None
made_by n t (move ∷ moves) (suc count) = option_and_then (λ made. made_by n made moves count) (move_result n t move)

-- the move with this number, counted from 1, is made on the tree that is reached by those before it
pub record IsNextMove (n : ℕ) (t : Shape) (moves : List PlainMove) (number : ℕ) (reached : Shape) (move : PlainMove) : Type 0 where
  pub before : ℕ
  pub counted : number ≡ before + 1
  pub made : made_by n t moves before ≡ Some reached
  pub is : slice_get moves before ≡ Some move

-- nothing is refused but the graph
abbrev pub IsOfGraph : Option Refusal → Type 0
IsOfGraph None = Unit {0}
IsOfGraph (Some (refusal.Graph fault)) = Unit {0}
IsOfGraph (Some (refusal.Tree number node place fault)) = ⊥
IsOfGraph (Some (refusal.Ears step place fault)) = ⊥
IsOfGraph (Some (refusal.Stuck step fault)) = ⊥
IsOfGraph (Some (refusal.Move step node place fault)) = ⊥

-- nothing is refused but the graph or one of the trees, and then at its node with this number
abbrev pub IsInTrees : List Shape → Option Refusal → Type 0
IsInTrees trees None = Unit {0}
IsInTrees trees (Some (refusal.Graph fault)) = Unit {0}
IsInTrees trees (Some (refusal.Tree number node place fault)) = (t : Shape) × (tree_numbered trees number ≡ Some t) × IsNodePlace t node place
IsInTrees trees (Some (refusal.Ears step place fault)) = ⊥
IsInTrees trees (Some (refusal.Stuck step fault)) = ⊥
IsInTrees trees (Some (refusal.Move step node place fault)) = ⊥

-- nothing is refused but the graph or the list of ears, and then where its step has the fault
abbrev pub IsInEars : Graph → PlainEars → Option Refusal → Type 0
IsInEars g list None = Unit {0}
IsInEars g list (Some (refusal.Graph fault)) = Unit {0}
IsInEars g list (Some (refusal.Tree number node place fault)) = ⊥
IsInEars g list (Some (refusal.Ears step place fault)) = place ≡ fault_place g list step
IsInEars g list (Some (refusal.Stuck step fault)) = ⊥
IsInEars g list (Some (refusal.Move step node place fault)) = ⊥

-- nothing is refused but the graph, the tree over 1 to n, or one of the moves on it: it has no
-- result, for this reason, or it makes a tree that is refused at the node with this number
abbrev pub IsInMoves : (n : ℕ) → Shape → List PlainMove → Option Refusal → Type 0
IsInMoves n t moves None = Unit {0}
IsInMoves n t moves (Some (refusal.Graph fault)) = Unit {0}
IsInMoves n t moves (Some (refusal.Tree number node place fault)) = (named : Shape) × (tree_numbered (t ∷ []) number ≡ Some named) × IsNodePlace named node place
IsInMoves n t moves (Some (refusal.Ears step place fault)) = ⊥
IsInMoves n t moves (Some (refusal.Stuck step fault)) = (reached : Shape) × (move : PlainMove) × IsNextMove n t moves step reached move × IsStuckBy n reached move fault
IsInMoves n t moves (Some (refusal.Move step node place fault)) = (made : Shape) × (made_by n t moves step ≡ Some made) × IsNodePlace made node place

-- the place of a refusal is that of the fault in what the task is on
abbrev pub IsPlaced : Task → Option Refusal → Type 0
IsPlaced (task.OnGraph verb named) refused = IsOfGraph refused
IsPlaced (task.OnSimpleGraph verb g) refused = IsOfGraph refused
IsPlaced (task.OnTree verb named tree) refused = IsInTrees (tree ∷ []) refused
IsPlaced (task.OnPicks verb named picks) refused = IsOfGraph refused
IsPlaced (task.OnEars verb named list) refused = IsInEars named.graph list refused
IsPlaced (task.OnMoves verb named tree moves) refused = IsInMoves named.graph.order tree moves refused
IsPlaced (task.OnTrees verb named first second) refused = IsInTrees (first ∷ second ∷ []) refused
IsPlaced (task.OnNumbers verb seed pieces) refused = IsOfGraph refused
