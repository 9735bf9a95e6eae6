-- Alternating paths and forests (Edmonds 1965), by places: a path has an even number of edges,
-- counted in pairs.
-- Stated by: match_core. Used by: match_search.
use Rattle.std.specs.Prelude.{◌≡◌, ℕ, zero, suc, ◌+◌, ◌≤◌, ◌<◌, true, false, not}
use Rattle.graph_core.specs.from_counting.Common.{Within, is_odd, Set, put}
use Rattle.graph_core.specs.Common.{Graph, degree, first_end, second_end, size, HasEnds}

-- f after the first k pairs of edges of a path were exchanged: the first of each pair in, the
-- second out
abbrev pub flipped : Set → (ℕ → ℕ) → ℕ → Set
flipped f e zero = f
flipped f e (suc k) = put (put (flipped f e k) (e (k + k)) true) (e (suc (k + k))) false

-- a path of g - r, over v 0, v 1, .., v (k + k) and the edges e 0, .. between them
pub record IsPath (g : Graph) (r : Set) (k : ℕ) (v e : ℕ → ℕ) : Type 0 where
  pub apart : (i j : ℕ) → i ≤ k + k → j ≤ k + k → v i ≡ v j → i ≡ j
  pub within : (i : ℕ) → i ≤ k + k → Within g.order (v i)
  pub outside : (i : ℕ) → i ≤ k + k → r (v i) ≡ false
  pub real : (i : ℕ) → i < k + k → Within (size g) (e i)
  pub ends : (i : ℕ) → i < k + k → HasEnds g (e i) (v i) (v (suc i))

-- an alternating path from a vertex that f misses: its edges are alternately outside f and in f
pub record IsAlternating (g : Graph) (r f : Set) (k : ℕ) (v e : ℕ → ℕ) : Type 0 where
  pub path : IsPath g r k v e
  pub free : degree g f (v 0) ≡ 0
  pub turns : (i : ℕ) → i < k + k → f (e i) ≡ is_odd i

-- outer vertices, each the end of such a path, and inner vertices, each matched by f to an outer
-- one
pub record IsAlternatingForest (g : Graph) (r f : Set) (outer inner : Set) (k : ℕ → ℕ) (v e : ℕ → ℕ → ℕ) : Type 0 where
  pub outer_in : (u : ℕ) → outer u ≡ true → Within g.order u × (r u ≡ false)
  pub inner_in : (u : ℕ) → inner u ≡ true → Within g.order u × (r u ≡ false) × (degree g f u ≡ 1)
  pub apart : (u : ℕ) → outer u ≡ true → inner u ≡ false
  pub misses : (u : ℕ) → Within g.order u → r u ≡ false → degree g f u ≡ 0 → outer u ≡ true
  pub mates : (d : ℕ) → Within (size g) d → f d ≡ true → (outer (first_end g d) ≡ inner (second_end g d)) × (inner (first_end g d) ≡ outer (second_end g d))
  pub seen : (u : ℕ) → inner u ≡ true → (d : ℕ) × (o : ℕ) × Within (size g) d × HasEnds g d u o × (outer o ≡ true)
  pub path : (u : ℕ) → outer u ≡ true → IsAlternating g r f (k u) (v u) (e u)
  pub last : (u : ℕ) → outer u ≡ true → v u (k u + k u) ≡ u
  pub sides : (u : ℕ) → outer u ≡ true → (j : ℕ) → j ≤ k u + k u → (outer (v u j) ≡ not (is_odd j)) × (inner (v u j) ≡ is_odd j)
