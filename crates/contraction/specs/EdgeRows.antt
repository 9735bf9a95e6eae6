-- The edges of a contraction that join two different blocks, by the earlier of the two.
-- Stated by: contraction.
use Rattle.std.specs.Prelude.{◌≡◌, ◌≤◌, ◌==◌, ◌&&◌, ℕ, Bool, not, min, List, map}
use Rattle.std.specs.Global.{Vec}
use Rattle.graph_core.specs.from_counting.Common.{rising_list, row_of}
use Rattle.graph_core.specs.Common.{Graph, first_end, second_end, size}

-- edge e is not a loop, and a is the lesser of its ends
abbrev pub starts_at : Graph → ℕ → ℕ → Bool
starts_at g a e = not (first_end g e == second_end g e) && (min (first_end g e) (second_end g e) == a)

-- each list has the edges that start there, in increasing order
pub record AreEdgeRows (g : Graph) (rows : List (List ℕ)) : Type 0 where
  pub few : size g ≤ 2048
  pub each : (a : ℕ) → row_of rows a ≡ rising_list (size g) (starts_at g a)

-- the code's lists as contracts see them
abbrev pub lists_of : List (Vec ℕ) → List (List ℕ)
lists_of rows = map (λ (row : Vec ℕ). row.items) rows
