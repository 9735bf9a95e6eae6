-- What is known of the leaves of trees of cuts of a graph.
-- Stated by: tree_check.
use Rattle.std.specs.Prelude.{◌≡◌}
use Rattle.graph_core.specs.Common.{Graph}
use Rattle.tree_core.specs.Common.{IsLeafAt, PlaceValue, place_of}

-- a place of g at which no nontrivial shore is tight
abbrev pub IsLeafOf : Graph → PlaceValue → Type 0
IsLeafOf g place = (place ≡ place_of g place.blocks) × IsLeafAt g place.blocks
