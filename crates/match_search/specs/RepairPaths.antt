-- Repaired matchings: perfect matchings whose symmetric difference with a given matching is one
-- path.
-- Stated by: match_core.
use Rattle.std.specs.Prelude.{◌≡◌, ℕ, suc, ◌+◌, ◌≤◌, ◌<◌, ◌≢◌, ◌↔◌, true, false, List, not, length}
use Rattle.graph_core.specs.from_counting.Common.{Within, is_odd, Set, put}
use Rattle.graph_core.specs.Common.{Graph, HasEnds, degree, size, IsPerfect}
use Rattle.match_search.specs.Forests.{IsAlternating, flipped}
use Rattle.match_search.specs.OddCycles.{same_answer}
use Rattle.match_search.specs.Rows.{numbers}

-- m misses v, a vertex outside r
pub record Misses (g : Graph) (r m : Set) (v : ℕ) : Type 0 where
  pub within : Within g.order v
  pub outside : r v ≡ false
  pub missed : degree g m v ≡ 0

-- the symmetric difference of m and n
abbrev pub difference : Set → Set → Set
difference m n e = not (same_answer (m e) (n e))

-- the edges d form one path from x to y: its vertices are different, and each edge joins a vertex
-- to the next
pub record FormPath (g : Graph) (d : Set) (x y : ℕ) : Type 0 where
  pub edges : ℕ
  pub vertex : ℕ → ℕ
  pub edge : ℕ → ℕ
  pub first : vertex 0 ≡ x
  pub last : vertex edges ≡ y
  pub apart : (i j : ℕ) → i ≤ edges → j ≤ edges → vertex i ≡ vertex j → i ≡ j
  pub real : (i : ℕ) → i < edges → Within (size g) (edge i)
  pub ends : (i : ℕ) → i < edges → HasEnds g (edge i) (vertex i) (vertex (suc i))
  pub these : (e : ℕ) → Within (size g) e → (d e ≡ true) ↔ ((i : ℕ) × (i < edges) × (edge i ≡ e))

-- the symmetric difference of m and n is one path between the two vertices that m misses
pub record DiffersByPath (g : Graph) (r m n : Set) : Type 0 where
  pub x : ℕ
  pub y : ℕ
  pub different : x ≢ y
  pub first : Misses g r m x
  pub second : Misses g r m y
  pub path : FormPath g (difference m n) x y

-- a walk from x by edges of n and of m alternately, which has reached v; the edges of n on it are
-- an even number of places from the start
pub record IsWalk (g : Graph) (r m n : Set) (x : ℕ) (es : List ℕ) (v : ℕ) : Type 0 where
  pub pairs : ℕ
  pub vertex : ℕ → ℕ
  pub long : length es ≡ pairs + pairs
  pub path : IsAlternating g r m pairs vertex (numbers es)
  pub other : (i : ℕ) → i < pairs + pairs → n (numbers es i) ≡ not (is_odd i)
  pub start : vertex 0 ≡ x
  pub here : vertex (pairs + pairs) ≡ v

-- the edges of the row, an odd number, are a path that makes m perfect
pub record IsRepairRow (g : Graph) (r m : Set) (x : ℕ) (es : List ℕ) : Type 0 where
  pub y : ℕ
  pub missed : Misses g r m y
  pub pairs : ℕ
  pub long : length es ≡ suc (pairs + pairs)
  pub vertex : ℕ → ℕ
  pub path : IsAlternating g r m pairs vertex (numbers es)
  pub start : vertex 0 ≡ x
  pub real : Within (size g) (numbers es (pairs + pairs))
  pub ends : HasEnds g (numbers es (pairs + pairs)) (vertex (pairs + pairs)) y
  pub apart : (i : ℕ) → i ≤ pairs + pairs → vertex i ≢ y
  pub off : m (numbers es (pairs + pairs)) ≡ false
  pub perfect : IsPerfect g r (put (flipped m (numbers es) pairs) (numbers es (pairs + pairs)) true)
