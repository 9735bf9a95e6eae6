-- The search for the node of a tree with a given number in preorder, as the code keeps it.
-- Stated by: bench_reports.
use Rattle.std.specs.Prelude.{◌≡◌, ◌≤◌, ◌<◌, ℕ, ◌+◌, true, List, ◌++◌, length, Option, Some, None}
use Rattle.move_text.specs.from_counting.Common.{mem}
use Rattle.tree_core.specs.Common.{Shape, node_count}
use Rattle.tree_core.specs.declared.path.Side.{Side}
use Rattle.bench_outcomes.specs.Common.{IsPlaceAt, nodes_before, steps_to, subtree_at}
use Rattle.bench_reports.specs.declared.node_places.Sought.{Sought}
use Rattle.bench_reports.specs.declared.node_places.Sought.TheVariants.{Found, Beyond}
use Rattle.bench_reports.specs.declared.node_places.Steps.{Steps}

-- the steps of the path: none are kept if it has more than 128
abbrev pub AreKeptSteps : Option Steps → List Side → Type 0
AreKeptSteps None path = 128 < length path
AreKeptSteps (Some steps) path =
    (steps_to (mem steps.merged) steps.depth ≡ path) × (steps.depth ≤ 128) × ((step : ℕ) → mem steps.merged step ≡ true → step ≤ steps.depth)

-- if the node with this number is in the tree at the end of the path, it has this place
abbrev pub IsFoundPlace : List Side → Shape → ℕ → Sought → Type 0
IsFoundPlace path t number (Found place) =
    (rest : List Side) × (node : Shape) × (subtree_at rest t ≡ Some node) × (number ≡ 1 + nodes_before rest t) × IsPlaceAt (path ++ rest) node place
IsFoundPlace path t number (Beyond left) = Unit {0}

-- if it comes after the tree, this number is left
abbrev pub IsPassed : Shape → ℕ → Sought → Type 0
IsPassed t number (Found place) = Unit {0}
IsPassed t number (Beyond left) = (number ≡ node_count t + left) × (0 < left)
