-- What a scan of a tree finds, as the code keeps it: a derivation with its leaves counted, or the
-- first refusal.
-- Stated by: tree_check.
use Rattle.std.specs.Prelude.{◌≡◌, ℕ, ◌+◌, ◌≤◌, List}
use Rattle.graph_core.specs.Common.{Graph}
use Rattle.tree_core.specs.Common.{IsDerivation, IsDerivationAt, IsTally, leaves, leaves_at, Shape}
use Rattle.tree_core.specs.declared.tallies.Tally.{Tally}
use Rattle.tree_check.specs.Judgements.{why_of}
use Rattle.tree_check.specs.Refusals.{IsRefused, IsRefusedAt}
use Rattle.tree_check.specs.declared.judgement.Scanned.{Scanned}
use Rattle.tree_check.specs.declared.judgement.Scanned.TheVariants as scanned

-- the tree at p, whose first node has this number, is a derivation and has so many leaves; or its
-- first refusal is that of the node of this number
abbrev pub IsScannedAt : Graph → List (List ℕ) → Shape → ℕ → Scanned → Type 0
IsScannedAt g p t node (scanned.Passed tally) = IsDerivationAt g p t × IsTally g (leaves_at g.order p t) tally
IsScannedAt g p t node (scanned.Refused number why) = (j : ℕ) × (number + 1 ≡ node + j) × IsRefusedAt g p t j (why_of why)

-- the tree is a derivation of the graph and has so many leaves, or this is its first refusal
abbrev pub IsScanResult : Graph → Shape → Scanned → Type 0
IsScanResult g t (scanned.Passed tally) = IsDerivation g t × IsTally g (leaves g.order t) tally
IsScanResult g t (scanned.Refused node why) = IsRefused g t node (why_of why)

-- no more leaves of a kind than leaves
pub record HasFewKinds (tally : Tally) : Type 0 where
  pub bricks : tally.bricks ≤ tally.leaves
  pub braces : tally.braces ≤ tally.leaves

-- the leaves of two lists counted together
abbrev pub sum_of : Tally → Tally → Tally
sum_of a b = record { leaves = a.leaves + b.leaves; bricks = a.bricks + b.bricks; braces = a.braces + b.braces }
