-- Tight cut decompositions: the rules by which cuts are chosen, and the numbers of bricks and
-- braces (Lovász 1987).
-- Idea: a rule may do as it likes, as long as it picks a cut wherever there is one; and what some
-- derivation counts, each one does.
-- Stated by: theorems.
use Rattle.std.specs.Prelude.{◌≡◌, ℕ, ◌+◌, ◌<◌, List, length}
use Rattle.graph_core.specs.Common.{Graph}
use Rattle.tree_core.specs.Common.{IsTally, IsDerivationAt, leaves_at, Shape}
use Rattle.tree_core.specs.declared.tallies.Tally.{Tally}
use Rattle.tree_check.specs.from_tight_cuts.Common.{Candidate}

-- a rule takes one place of each nonempty list of candidates, whatever the number of cuts before
abbrev pub ChoosesPlaces : (List Candidate → ℕ → ℕ) → Type 0
ChoosesPlaces choose = (list : List Candidate) (cuts : ℕ) → 0 < length list → choose list cuts < length list

-- the place that the rule takes is picked
abbrev pub PicksChosen : (List Candidate → ℕ → ℕ) → List Candidate → ℕ → ℕ → Type 0
PicksChosen choose list cuts place = place ≡ choose list cuts

-- some derivation at p has so many leaves, and so many bricks and braces among them
pub record IsCountedAt (g : Graph) (p : List (List ℕ)) (tally : Tally) : Type 0 where
  pub tree : Shape
  pub derives : IsDerivationAt g p tree
  pub counts : IsTally g (leaves_at g.order p tree) tally

-- the sum of two counts
abbrev pub both : Tally → Tally → Tally
both s t = record { leaves = s.leaves + t.leaves; bricks = s.bricks + t.bricks; braces = s.braces + t.braces }
