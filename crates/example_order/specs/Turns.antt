-- The order of turns: the first candidate where the number of cuts before the node is even, and the
-- last one where it is odd.
-- Stated by: example_order.
use Rattle.std.specs.Prelude.{◌≡◌, ℕ, ◌-◌, ◌%◌, ◌==◌, List, length, if◌then◌else◌}
use Rattle.tree_check.specs.from_tight_cuts.Common.{Candidate}

-- the order picks this place in this list of candidates, with so many cuts before the node
abbrev pub PicksByTurns : List Candidate → (cuts place : ℕ) → Type 0
PicksByTurns list cuts place = place ≡ (if cuts % 2 == 0 then 0 else length list - 1)
