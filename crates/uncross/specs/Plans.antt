-- How a shore y is exposed in a tree with the root shore x: what is exposed first in its two
-- subtrees, and what is then done at the root.
-- Stated by: uncross.
use Rattle.std.specs.Prelude.{◌≡◌, ◌+◌, ◌*◌, ◌≤◌, ℕ, true, false, List, [], length, Option, Some, None, ◌⊎◌, if◌then◌else◌, nat_lt}
use Rattle.graph_core.specs.from_counting.Common.{is_apart, is_subset, mem}
use Rattle.graph_core.specs.Common.{Graph, block_count}
use Rattle.tree_core.specs.Common.{IsCutAt, PlainMove, meet_list, Shape, cut, cut_count}
use Rattle.move_laws.specs.Common.{outer_of, outer_shore, partner, IsProperScript, PlainTurned, over_inner, raised_kept, raised_merged}

-- y is the root shore; or it is exposed in `kept` or in `merged` first; or it crosses the root
-- shore with the corners u and v, of which those with at least three blocks are exposed first, as
-- the shores inner and outer
pub data PlainPlan : Type 0 where
  here : PlainPlan
  in_kept : PlainPlan
  in_merged : PlainPlan
  crossing : (u v : List ℕ) (inner outer : Option (List ℕ)) → PlainPlan

-- a shore, if it has at least three blocks
abbrev pub if_big : List (List ℕ) → (u shore : List ℕ) → Option (List ℕ)
if_big p u shore = if nat_lt (block_count p (mem u)) 3 then None else Some shore

-- the plan for x and y at p
abbrev pub IsPlan : ℕ → List (List ℕ) → (x y : List ℕ) → PlainPlan → Type 0
IsPlan n p x y here = x ≡ y
IsPlan n p x y in_kept = (is_subset y x ≡ true) × (is_subset x y ≡ false)
IsPlan n p x y in_merged = (is_subset y x ≡ false) × ((is_subset x y ≡ true) ⊎ (is_apart x y ≡ true))
IsPlan n p x y (crossing u v inner outer) =
    (is_subset y x ≡ false) × (is_subset x y ≡ false) × (is_apart x y ≡ false) × (u ≡ meet_list n x (partner n p x y)) × (v ≡ outer_of n x (partner n p x y)) × (inner ≡ if_big p u u) × (outer ≡ if_big p v (outer_shore n v))

-- the shore that is exposed in `kept` first
abbrev pub first_kept_shore : List ℕ → PlainPlan → Option (List ℕ)
first_kept_shore y here = None
first_kept_shore y in_kept = Some y
first_kept_shore y in_merged = None
first_kept_shore y (crossing u v inner outer) = inner

-- the shore that is exposed in `merged` first
abbrev pub second_shore : List ℕ → PlainPlan → Option (List ℕ)
second_shore y here = None
second_shore y in_kept = None
second_shore y in_merged = Some y
second_shore y (crossing u v inner outer) = outer

-- what is then done at the root, with the moves made in the two subtrees
abbrev pub plan_result : ℕ → List ℕ → PlainPlan → Shape → Shape → Option (List PlainMove) → Option (List PlainMove) → Option PlainTurned
plan_result n x here a b inner outer = Some (record { tree = cut x a b; moves = [] })
plan_result n x in_kept a b (Some ms) outer = raised_kept x (record { tree = a; moves = ms }) b
plan_result n x in_kept a b None outer = None
plan_result n x in_merged a b inner (Some ms) = raised_merged x a (record { tree = b; moves = ms })
plan_result n x in_merged a b inner None = None
plan_result n x (crossing u v i o) a b inner outer = over_inner n x u v a b inner outer

-- a shore, if there is one, is a canonical nontrivial tight shore at p
abbrev pub CutIf : Graph → List (List ℕ) → Option (List ℕ) → Type 0
CutIf g p None = Unit {0}
CutIf g p (Some y) = IsCutAt g p y

-- the tree t is s if nothing is to be exposed, and otherwise one that has the shore at its root,
-- with a script of few moves from s
abbrev pub IsExposed : Graph → List (List ℕ) → Shape → Option (List ℕ) → Shape → Option (List PlainMove) → Type 0
IsExposed g p s None t None = t ≡ s
IsExposed g p s None t (Some ms) = ⊥
IsExposed g p s (Some y) t None = ⊥
IsExposed g p s (Some y) t (Some ms) = (k : Shape) × (l : Shape) × (t ≡ cut y k l) × IsProperScript g p s ms (cut y k l) × (length ms + 2 ≤ 3 * cut_count s)
