-- What a move makes of some derivation.
-- Stated by: tree_check.
use Rattle.std.specs.Prelude.{◌≡◌, ℕ, List, Some}
use Rattle.graph_core.specs.from_counting.Common.{IsRisingIn, mem}
use Rattle.graph_core.specs.Common.{Graph}
use Rattle.tree_core.specs.Common.{IsDerivation, IsDerivationAt, IsBlockOf, PlainMove, move_result, switch_result, Shape}
use Rattle.tree_core.specs.declared.path.Side.{Side}

-- the move makes t of some derivation of g
abbrev pub IsMadeBy : Graph → PlainMove → Shape → Type 0
IsMadeBy g m t = (s : Shape) × IsDerivation g s × (move_result g.order s m ≡ Some t)

-- the Switch of u and v at the end of the path makes t of some derivation at p
abbrev pub IsSwitchOfDerivation : Graph → List (List ℕ) → List Side → (u v : List ℕ) → Shape → Type 0
IsSwitchOfDerivation g p path u v t = (s : Shape) × IsDerivationAt g p s × (switch_result g.order path u v s ≡ Some t)

-- the rising list is one of the blocks of p
abbrev pub IsBlock : ℕ → List (List ℕ) → List ℕ → Type 0
IsBlock n p u = IsRisingIn n u × ((s : ℕ) × IsBlockOf n p (mem u) s)
