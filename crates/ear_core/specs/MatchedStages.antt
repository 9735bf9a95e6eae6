-- What is kept of a stage while a list of ears is checked.
-- Stated by: ear_core.
use Rattle.std.specs.Prelude.{◌≡◌, ◌+◌, ℕ, List, length, true}
use Rattle.graph_core.specs.from_counting.Common.{Set, none}
use Rattle.graph_core.specs.Common.{Graph}
use Rattle.two_ears.specs.from_match_search.Common.{HasMates, numbers}
use Rattle.ear_core.specs.Asking.{IsAsked}
use Rattle.ear_core.specs.StagePartners.{ArePartnersOn}
use Rattle.ear_core.specs.declared.asking.Asked.{Asked}

-- the mates of a matching of g without r
pub record NamesMatching (g : Graph) (r : Set) (mate : List ℕ) : Type 0 where
  pub long : length mate ≡ g.order + 1
  pub m : Set
  pub mates : HasMates g r m (numbers mate)

-- the mates are those of a matching of g by edges of f
abbrev pub NamesPart : Graph → Set → List ℕ → Type 0
NamesPart g f mate = (x : Set) × HasMates g none x (numbers mate) × ((e : ℕ) → x e ≡ true → f e ≡ true)

-- it is asked about a stage on which partners are partners on the stage f
pub record IsAskedBefore (g : Graph) (f : Set) (asked : Asked) : Type 0 where
  pub stage : Set
  pub asks : IsAsked g stage asked
  pub partners : (u v : ℕ) → ArePartnersOn g stage u v → ArePartnersOn g f u v
