-- The nodes of a tree of cuts in preorder, by the paths that lead to them from the root.
-- Stated by: theorems.
use Rattle.std.specs.Prelude.{List, [], ◌∷◌}
use Rattle.tree_check.specs.from_counting.Common.{IsIn}
use Rattle.tree_core.specs.declared.path.Side.{Side}
use Rattle.tree_core.specs.declared.path.Side.TheVariants.{Kept, Merged}

-- a comes before b in preorder: b goes on where a ends, or a goes to `kept` and b to `merged`
-- where they part
abbrev pub IsEarlier : List Side → List Side → Type 0
IsEarlier [] [] = ⊥
IsEarlier [] (side ∷ b) = Unit {0}
IsEarlier (side ∷ a) [] = ⊥
IsEarlier (Kept ∷ a) (Kept ∷ b) = IsEarlier a b
IsEarlier (Kept ∷ a) (Merged ∷ b) = Unit {0}
IsEarlier (Merged ∷ a) (Kept ∷ b) = ⊥
IsEarlier (Merged ∷ a) (Merged ∷ b) = IsEarlier a b

-- each path comes before all that stand after it
abbrev pub AreInPreorder : List (List Side) → Type 0
AreInPreorder [] = Unit {0}
AreInPreorder (a ∷ paths) = ((b : List Side) → IsIn b paths → IsEarlier a b) × AreInPreorder paths

-- the paths of which P holds, each once, in preorder
pub record ListsPaths (paths : List (List Side)) (P : List Side → Type 0) : Type 0 where
  pub order : AreInPreorder paths
  pub sound : (a : List Side) → IsIn a paths → P a
  pub complete : (a : List Side) → P a → IsIn a paths
