-- Why a move on a tree of cuts has no result.
-- Stated by: bench_reports. Used by: bench_outcomes.
use Rattle.std.specs.Prelude.{◌≡◌, ◌⊎◌, ◌&&◌, if◌then◌else◌, Bool, true, false, List, [], ◌∷◌, ℕ, IsFalse, None}
use Rattle.tree_check.specs.from_counting.Common.{is_apart, is_subset}
use Rattle.graph_core.specs.Common.{complement_of}
use Rattle.refusals.specs.declared.faults.StuckFault.{StuckFault}
use Rattle.refusals.specs.declared.faults.StuckFault.TheVariants.{NoCut, Crossing, NotParts}
use Rattle.tree_core.specs.Common.{PlainMove, Shape, cut, is_proper, leaf, move_result, rotate_at, switch_at}
use Rattle.tree_core.specs.declared.path.Side.{Side}
use Rattle.tree_core.specs.declared.path.Side.TheVariants.{Kept, Merged}

-- the path leads from the root to a cut
abbrev pub leads_to_cut : List Side → Shape → Bool
leads_to_cut path leaf = false
leads_to_cut [] (cut x a b) = true
leads_to_cut (Kept ∷ path) (cut x a b) = leads_to_cut path a
leads_to_cut (Merged ∷ path) (cut x a b) = leads_to_cut path b

-- the move has no result on a tree over 1 to n
abbrev pub HasNoResult : ℕ → Shape → PlainMove → Type 0
HasNoResult n t m = move_result n t m ≡ None

-- why a move has no result, if it has none: its path leads to no cut or, for Rotate, to the root;
-- else two shores cross (Rotate), or two sets are not parts of the two sides of the cut (Switch)
abbrev pub stuck_fault : PlainMove → Shape → StuckFault
stuck_fault (rotate_at []) t = NoCut
stuck_fault (rotate_at (side ∷ path)) t = if leads_to_cut (side ∷ path) t then Crossing else NoCut
stuck_fault (switch_at path u v) t = if leads_to_cut path t then NotParts else NoCut

-- the path leads to a cut that is the `merged` child of another; its shore meets that of its
-- parent, but does not contain it
abbrev pub CrossesParent : List Side → Shape → Type 0
CrossesParent [] t = ⊥
CrossesParent (side ∷ path) leaf = ⊥
CrossesParent (Kept ∷ path) (cut x a b) = CrossesParent path a
CrossesParent (Merged ∷ []) (cut x a leaf) = ⊥
CrossesParent (Merged ∷ []) (cut x a (cut y b c)) = IsFalse (is_subset x y) × IsFalse (is_apart x y)
CrossesParent (Merged ∷ next ∷ path) (cut x a b) = CrossesParent (next ∷ path) b

-- the path leads to a cut, and u and v are not nonempty proper subsets of its two sides
abbrev pub AreNoParts : ℕ → List Side → (u v : List ℕ) → Shape → Type 0
AreNoParts n [] u v leaf = ⊥
AreNoParts n [] u v (cut x a b) = IsFalse (is_proper u x && is_proper v (complement_of n x))
AreNoParts n (side ∷ path) u v leaf = ⊥
AreNoParts n (Kept ∷ path) u v (cut x a b) = AreNoParts n path u v a
AreNoParts n (Merged ∷ path) u v (cut x a b) = AreNoParts n path u v b

-- this is what is wrong with the move on a tree over 1 to n
abbrev pub IsStuckBy : ℕ → Shape → PlainMove → StuckFault → Type 0
IsStuckBy n t (rotate_at path) NoCut = (path ≡ []) ⊎ IsFalse (leads_to_cut path t)
IsStuckBy n t (rotate_at path) Crossing = CrossesParent path t
IsStuckBy n t (rotate_at path) NotParts = ⊥
IsStuckBy n t (switch_at path u v) NoCut = IsFalse (leads_to_cut path t)
IsStuckBy n t (switch_at path u v) Crossing = ⊥
IsStuckBy n t (switch_at path u v) NotParts = AreNoParts n path u v t
