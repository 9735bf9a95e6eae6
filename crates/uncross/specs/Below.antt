-- What is below the root of a derivation.
-- Stated by: uncross.
use Rattle.std.specs.Prelude.{◌≡◌, ◌+◌, ◌*◌, ◌≤◌, ℕ, List, length}
use Rattle.graph_core.specs.Common.{Graph}
use Rattle.tree_core.specs.Common.{PlaceValue, PlainMove, Shape, cut, cut_count}
use Rattle.move_laws.specs.Common.{IsProperScript}

-- q is the place of the graph at p
pub record IsPlaceBelow (g : Graph) (p : List (List ℕ)) (q : PlaceValue) : Type 0 where
  pub graph : q.graph ≡ g
  pub blocks : q.blocks ≡ p

-- few moves turn s into the tree with the root shore y and these two trees below it
pub record IsBrought (g : Graph) (p : List (List ℕ)) (s : Shape) (y : List ℕ) (k l : Shape) (ms : List PlainMove) : Type 0 where
  pub script : IsProperScript g p s ms (cut y k l)
  pub few : length ms + 2 ≤ 3 * cut_count s

-- few moves turn s into the tree t, which has the root shore y
pub record IsRaised (g : Graph) (p : List (List ℕ)) (s : Shape) (y : List ℕ) (t : Shape) (ms : List PlainMove) : Type 0 where
  pub root : (a : Shape) × (b : Shape) × (t ≡ cut y a b)
  pub script : IsProperScript g p s ms t
  pub few : length ms + 2 ≤ 3 * cut_count s
