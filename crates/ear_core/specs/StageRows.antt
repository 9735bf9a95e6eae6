-- What is kept of a stage: the mates of a matching of it and rows of partners. The vertices of one
-- class share a row: where two vertices of a covered stage are no partners, they have the same
-- partners (Kotzig; Lovász and Plummer, "Matching Theory", chapter 5).
-- Stated by: ear_core.
use Rattle.std.specs.Prelude.{◌≡◌, ℕ, Bool, List, false, length, true}
use Rattle.graph_core.specs.from_counting.Common.{Within, Set, item, mem}
use Rattle.graph_core.specs.Common.{Graph}
use Rattle.two_ears.specs.from_match_core.Common.{are_partners}
use Rattle.ear_core.specs.MatchedStages.{NamesMatching}
use Rattle.ear_core.specs.declared.asking.Asked.{Asked}

-- vertices of g without r that are no partners have the same partners
abbrev pub HasClasses : Graph → Set → Type 0
HasClasses g r = (u v w : ℕ) → Within g.order u → Within g.order v → Within g.order w → r u ≡ false → r v ≡ false → are_partners g r u v ≡ false → are_partners g r v w ≡ are_partners g r u w

-- the row has the partners on the stage of each vertex of x
abbrev pub HaveRow : Asked → Set → List ℕ → Type 0
HaveRow asked x row = (u : ℕ) → x u ≡ true → Within asked.stage.order u × ((v : ℕ) → Within asked.stage.order v → mem row v ≡ are_partners asked.stage (mem asked.outside) u v)

-- the mates are those of a matching of the stage, which has classes if it is covered, and the rows
-- of the known vertices hold their partners on it
pub record IsStageOf (asked : Asked) (mate : List ℕ) (covered : Bool) (known : List ℕ) (rows : List (List ℕ)) : Type 0 where
  pub matched : NamesMatching asked.stage (mem asked.outside) mate
  pub classes : covered ≡ true → HasClasses asked.stage (mem asked.outside)
  pub one_each : length rows ≡ asked.stage.order
  pub within : (u v : ℕ) → Within asked.stage.order u → mem known u ≡ true → mem (item rows u) v ≡ true → Within asked.stage.order v
  pub row_is : (u v : ℕ) → Within asked.stage.order u → Within asked.stage.order v → mem known u ≡ true → mem (item rows u) v ≡ are_partners asked.stage (mem asked.outside) u v
