-- What the judgement of a leaf finds.
-- Stated by: tree_check.
use Rattle.std.specs.Prelude.{ℕ, List}
use Rattle.graph_core.specs.Common.{Graph}
use Rattle.tree_core.specs.Common.{IsLeafAt, IsLeafKind}
use Rattle.tree_core.specs.declared.tallies.LeafKind.{LeafKind}

-- no nontrivial shore is tight at p, and the leaf there has this kind
abbrev pub IsLeafOfKind : Graph → List (List ℕ) → LeafKind → Type 0
IsLeafOfKind g p kind = IsLeafAt g p × IsLeafKind g p kind
