-- What a Switch makes of the trees below its node, by the side that a tree is on and by whether
-- the greatest vertex comes in with v.
-- Stated by: tree_core.
use Rattle.std.specs.Prelude.{◌≡◌, ℕ, Bool, true, false, List, All, if◌then◌else◌}
use Rattle.graph_core.specs.from_counting.Common.{Within, is_subset, mem}
use Rattle.tree_core.specs.Moves.{inner_rest, kept_if_greatest_comes, kept_if_greatest_stays, merged_if_greatest_comes, merged_if_greatest_stays, merged_shore_if_greatest_stays, minus_list, outer_rest, union_list}
use Rattle.tree_core.specs.Shapes.{Shape, cut}
use Rattle.tree_core.specs.declared.path.Side.{Side}
use Rattle.tree_core.specs.declared.path.Side.TheVariants.{Kept, Merged}

-- u and v are to be exchanged at the shore x
pub record IsExchange (greatest_comes : Bool) (n : ℕ) (x u v : List ℕ) : Type 0 where
  pub greatest : greatest_comes ≡ mem v n
  pub whole : All (Within n) x
  pub part : All (Within n) u
  pub other : All (Within n) v

-- what a shore becomes
abbrev pub shore_after : Bool → Side → ℕ → (x u v s : List ℕ) → List ℕ
shore_after true Kept n x u v s = if is_subset u s then union_list n s (outer_rest n x v) else s
shore_after true Merged n x u v s = if is_subset x s then union_list n (minus_list n s x) u else s
shore_after false Kept n x u v s = if is_subset u s then union_list n (minus_list n x s) v else s
shore_after false Merged n x u v s = merged_shore_if_greatest_stays n x u v s

-- whether the two trees below it change places
abbrev pub is_turned : Bool → Side → (u s : List ℕ) → Bool
is_turned true Kept u s = false
is_turned true Merged u s = false
is_turned false Kept u s = is_subset u s
is_turned false Merged u s = false

-- what a tree becomes
abbrev pub tree_after : Bool → Side → ℕ → (x u v : List ℕ) → Shape → Shape
tree_after true Kept n x u v t = kept_if_greatest_comes n x u v t
tree_after true Merged n x u v t = merged_if_greatest_comes n x u t
tree_after false Kept n x u v t = kept_if_greatest_stays n x u v t
tree_after false Merged n x u v t = merged_if_greatest_stays n x u v t

-- what the cut of x with these two trees becomes
abbrev pub cut_after : Bool → ℕ → (x u v : List ℕ) → (kept merged : Shape) → Shape
cut_after true n x u v a b = cut (union_list n (outer_rest n x v) u) (tree_after true Merged n x u v b) (tree_after true Kept n x u v a)
cut_after false n x u v a b = cut (union_list n (inner_rest n x u) v) (tree_after false Kept n x u v a) (tree_after false Merged n x u v b)
