-- Proper scripts: scripts of proper moves through derivations at a partition.
-- Stated by: uncross. Used by: move_laws, theorems.
use Rattle.std.specs.Prelude.{◌≡◌, ℕ, List, [], ◌∷◌, Some}
use Rattle.graph_core.specs.from_counting.Common.{IsRisingIn}
use Rattle.graph_core.specs.Common.{Graph}
use Rattle.tree_core.specs.Common.{IsDerivationAt, IsProper, PlainMove, move_result, Shape, leaf, cut, cut_count}

-- the shore of each node is an increasing list within 1 to n
abbrev pub AreRising : ℕ → Shape → Type 0
AreRising n leaf = Unit {0}
AreRising n (cut x a b) = IsRisingIn n x × AreRising n a × AreRising n b

-- the script leads from s to t through derivations at p, and each Switch is proper
abbrev pub IsProperScript : Graph → List (List ℕ) → Shape → List PlainMove → Shape → Type 0
IsProperScript g p s [] t = s ≡ t
IsProperScript g p s (m ∷ ms) t = (r : Shape) × (move_result g.order s m ≡ Some r) × IsProper g.order p s m × IsDerivationAt g p r × AreRising g.order r × (cut_count r ≡ cut_count s) × IsProperScript g p r ms t
