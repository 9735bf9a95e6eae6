-- Perfect matchings that lead out of a stage at two of its vertices alone. Together with a perfect
-- matching that keeps the stage such a one makes a single ear, and all single ears are found so.
-- Stated by: ear_core. Used by: theorems.
use Rattle.std.specs.Prelude.{◌≡◌, ◌≢◌, ◌⊎◌, ℕ, true, false, ◌&&◌, not, cond}
use Rattle.graph_core.specs.from_counting.Common.{Within, Set, complement, none, pair_set, union}
use Rattle.graph_core.specs.Common.{Graph, size, HasPerfect, IsPerfect}
use Rattle.two_ears.specs.from_match_core.Common.{has_end_in}
use Rattle.ear_core.specs.Stages.{adjacent_by, is_met}

-- where edge e must have no end: an edge of f at u and v, another one at other vertices of f
abbrev pub barred : Graph → Set → ℕ → ℕ → ℕ → Set
barred g f u v e w = cond (f e) (pair_set u v w) (is_met g f w && not (pair_set u v w))

-- edge e may lie in a perfect matching that leads out of f at u and v alone
abbrev pub is_open : Graph → Set → ℕ → ℕ → Set
is_open g f u v e = not (has_end_in g (barred g f u v e) e)

-- m is a perfect matching of g by edges of x
pub record IsPerfectBy (g : Graph) (x m : Set) : Type 0 where
  pub perfect : IsPerfect g none m
  pub part : (e : ℕ) → Within (size g) e → m e ≡ true → x e ≡ true

-- m leads out of f at two of its vertices alone
abbrev pub LeadsAtTwo : Graph → Set → Set → Type 0
LeadsAtTwo g f m = (u : ℕ) × (v : ℕ) × (u ≢ v) × (is_met g f u ≡ true) × (is_met g f v ≡ true) × IsPerfectBy g (is_open g f u v) m

-- off f an edge joins u and v and the rest has a perfect matching, or u and v have neighbours
-- there without which it has one
abbrev pub LeadsOff : Graph → Set → ℕ → ℕ → Type 0
LeadsOff g f u v =
    ((adjacent_by g (complement f) u v ≡ true) × HasPerfect g (is_met g f))
    ⊎ ((w : ℕ) × (x : ℕ) × (w ≢ x) × (is_met g f w ≡ false) × (is_met g f x ≡ false) × (adjacent_by g (complement f) u w ≡ true) × (adjacent_by g (complement f) v x ≡ true) × HasPerfect g (union (is_met g f) (pair_set w x)))
