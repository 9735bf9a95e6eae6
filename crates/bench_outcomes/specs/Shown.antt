-- What a report may show that need not be unique: a Berge set of a connected graph without a
-- perfect matching, or a perfect matching that crosses a refused cut.
-- Stated by no contract. Used by: bench_outcomes, bench_top.
use Rattle.std.specs.Prelude.{◌⊎◌, ℕ, List}
use Rattle.graph_core.specs.Common.{IsReason, Unmatched, Graph}
use Rattle.tree_core.specs.Common.{IsDerivation, PlainMove, Shape}
use Rattle.tree_check.specs.Common.{IsRefused, not_tight, IsRefusedMoveAt}

-- a Berge set that may be the reason why the graph is not covered
abbrev pub MayBeBerge : Graph → List ℕ → Type 0
MayBeBerge g set = IsReason g (Unmatched set)

-- a perfect matching that may be shown if the tree is refused: it crosses the cut of the first
-- node that breaks a rule
abbrev pub MayCross : Graph → Shape → List ℕ → Type 0
MayCross g tree matching = (node : ℕ) × IsRefused g tree node (not_tight matching)

-- the same for the tree that the first failing move makes
abbrev pub MayCrossBehind : Graph → Shape → List PlainMove → List ℕ → Type 0
MayCrossBehind g tree moves matching = (at : ℕ) × ((node : ℕ) × IsRefusedMoveAt g tree moves at node (not_tight matching))

-- the numbers that a report on a tree may show, which need not be unique
abbrev pub MayShowOfTree : Graph → Shape → List ℕ → Type 0
MayShowOfTree g tree numbers = MayBeBerge g numbers ⊎ MayCross g tree numbers

-- the same for a tree and moves
abbrev pub MayShowOfMoves : Graph → Shape → List PlainMove → List ℕ → Type 0
MayShowOfMoves g tree moves numbers = MayBeBerge g numbers ⊎ (MayCross g tree numbers ⊎ MayCrossBehind g tree moves numbers)

-- the same for two trees
abbrev pub MayShowOfTwo : Graph → (first second : Shape) → List ℕ → Type 0
MayShowOfTwo g first second numbers =
    MayBeBerge g numbers ⊎ (MayCross g first numbers ⊎ (IsDerivation g first × MayCross g second numbers))
