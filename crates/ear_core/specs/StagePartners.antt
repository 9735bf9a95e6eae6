-- Partners on a stage: two of its vertices without which it has a perfect matching (Lovász and
-- Plummer, "Matching Theory", chapter 5).
-- Stated by: ear_core.
use Rattle.std.specs.Prelude.{◌≡◌, ◌≢◌, ℕ, true}
use Rattle.graph_core.specs.from_counting.Common.{Within, Set, pair_set}
use Rattle.graph_core.specs.Common.{Graph}
use Rattle.ear_core.specs.AlternatingEars.{Serves}
use Rattle.ear_core.specs.Stages.{is_met}

-- u and v are partners on the stage f
abbrev pub ArePartnersOn : Graph → Set → ℕ → ℕ → Type 0
ArePartnersOn g f u v = (u ≢ v) × (is_met g f u ≡ true) × (is_met g f v ≡ true) × Serves g f (pair_set u v)

-- f meets all vertices, and any two of them are partners on it
pub record PairsAll (g : Graph) (f : Set) : Type 0 where
  pub meets : (v : ℕ) → Within g.order v → is_met g f v ≡ true
  pub pairs : (u v : ℕ) → Within g.order u → Within g.order v → u ≢ v → ArePartnersOn g f u v
