-- Fractional edge colourings: lists of perfect matchings that contain each edge equally often
-- (Edmonds 1965; Seymour 1979).
-- Stated by: theorems.
use Rattle.std.specs.Prelude.{◌≡◌, ℕ, ◌*◌, ◌≤◌, List, length, All}
use Rattle.tree_check.specs.from_counting.Common.{Within, bit, Set, none}
use Rattle.graph_core.specs.Common.{Graph, size, IsPerfect}
use Rattle.quick_kinds.specs.from_brick_kit.Weights.{sum_over}

-- a fractional edge colouring with r colours: for some k ≥ 1, a list of r k perfect matchings, with
-- repetitions, that contains each edge exactly k times
pub record FractionalColouring (r : ℕ) (g : Graph) : Type 0 where
  pub matchings : List Set
  pub times : ℕ
  pub some : 1 ≤ times
  pub perfect : All (IsPerfect g none) matchings
  pub many : length matchings ≡ r * times
  pub equal : (e : ℕ) → Within (size g) e → sum_over (λ m. bit (m e)) matchings ≡ times
