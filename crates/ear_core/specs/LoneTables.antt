-- The partners off a stage, and what they tell of the perfect matchings that lead out of it at two
-- of its vertices alone.
-- Stated by: ear_core.
use Rattle.std.specs.Prelude.{◌≡◌, ℕ, List, ◌&&◌, ◌||◌, length}
use Rattle.graph_core.specs.from_counting.Common.{Within, Set, complement, item, mem, some}
use Rattle.graph_core.specs.Common.{Graph, HasPerfect}
use Rattle.two_ears.specs.from_match_core.Common.{ArePartners}
use Rattle.ear_core.specs.Stages.{adjacent_by, is_met}
use Rattle.ear_core.specs.declared.lone_tables.Tables.{Tables}

-- a row holds w, of those that the table has for the first n numbers in x
abbrev pub in_rows : List (List ℕ) → ℕ → Set → Set
in_rows table n x w = some n (λ v. x v && mem (item table v) w)

-- two vertices off f are in one row of the first table if the rest, which has a perfect matching,
-- has one without them; the second has for each vertex its neighbours off f
pub record AreTables (g : Graph) (f : Set) (t : Tables) : Type 0 where
  pub rest : HasPerfect g (is_met g f)
  pub outer : ArePartners g (is_met g f) t.outer
  pub near_long : length t.near.items ≡ g.order
  pub near : (u v : ℕ) → Within g.order u → mem (item t.near.items u) v ≡ adjacent_by g (complement f) u v

-- v is reached from u off f
abbrev pub reached : Graph → Tables → ℕ → Set
reached g t u v = in_rows t.near.items g.order (in_rows t.outer g.order (mem (item t.near.items u))) v || mem (item t.near.items u) v
