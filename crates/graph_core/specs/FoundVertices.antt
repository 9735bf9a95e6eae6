-- How a search goes through G - S: the states between its steps. Only contracts of the search cite
-- them; its result is defined in Components and Sides.
-- Stated by: graph_core.
use Rattle.std.specs.Prelude.{◌≡◌, ℕ, ◌+◌, ◌≤◌, true, false, ◌&&◌, not, List, ◌++◌, map}
use Rattle.vset_core.specs.from_counting.Common.{Within, count, rising_list, Set, complement, meet, minus, singleton, union}
use Rattle.graph_core.specs.Components.{components, is_least}
use Rattle.graph_core.specs.Graph.{Graph}
use Rattle.graph_core.specs.Trees.{IsForest}
use Rattle.graph_core.specs.Walks.{adjacent, joined}

-- a tree grows from r in the set x: `left` is what is left of x, the rest has been found and is in
-- the tree, and a found vertex with a neighbour left is still open
pub record IsGrowth (g : Graph) (x : Set) (r : ℕ) (left open_set : Set) (parent depth : ℕ → ℕ) : Type 0 where
  pub smaller : (v : ℕ) → left v ≡ true → x v ≡ true
  pub found : (v : ℕ) → open_set v ≡ true → (x v ≡ true) × (left v ≡ false)
  pub start : (x r ≡ true) × (left r ≡ false)
  pub tree : IsForest g (complement (minus x left)) (singleton r) parent depth
  pub done : (v w : ℕ) → x v ≡ true → left v ≡ false → open_set v ≡ false → adjacent g (complement x) v w ≡ true → left w ≡ false
  pub shallow : (v : ℕ) → Within g.order v → x v ≡ true → left v ≡ false → depth v + count g.order left ≤ g.order

-- the component of r in the set x has been found: `left` is x without it, and it has a search tree
-- with the root r
pub record IsGrown (g : Graph) (x : Set) (r : ℕ) (left : Set) (parent depth : ℕ → ℕ) : Type 0 where
  pub smaller : (v : ℕ) → left v ≡ true → x v ≡ true
  pub taken : (v : ℕ) → Within g.order v → (x v && not (left v)) ≡ joined g (complement x) r v
  pub tree : IsForest g (complement (minus x left)) (singleton r) parent depth

-- the components found so far are the first ones of g - s; `left` has the vertices of the others
pub record IsComponentStage (g : Graph) (s left : Set) (parts : List (List ℕ)) (parent depth : ℕ → ℕ) : Type 0 where
  pub vertices : (v : ℕ) → left v ≡ true → Within g.order v × (s v ≡ false)
  pub closed : (u v : ℕ) → adjacent g s u v ≡ true → left u ≡ left v
  pub tree : IsForest g (union s left) (is_least g s) parent depth
  pub rest : parts ++ map (λ u. rising_list g.order (joined g s u)) (rising_list g.order (meet left (is_least g s))) ≡ components g s
