-- The report on a tree of cuts that is meant to be a derivation of a graph: the number of its
-- leaves, or its first refusal.
-- Stated by: bench_reports. Used by: bench_outcomes, bench_top, theorems.
use Rattle.std.specs.Prelude.{◌≡◌, ◌⊎◌, ℕ, List, Option, Some, None}
use Rattle.graph_core.specs.Common.{Graph}
use Rattle.tree_core.specs.Common.{IsDerivation, leaves, Shape, IsTally}
use Rattle.tree_check.specs.Common.{Why, not_blocks, even, trivial, not_tight, not_leaf, why_number, IsRefused}
use Rattle.report_text.specs.Common.{judgement_text}
use Rattle.report_text.specs.declared.judgements.Shown.{Shown}
use Rattle.report_text.specs.declared.judgements.Shown.TheVariants.{Nothing, Matching, Cut}
use Rattle.report_text.specs.declared.judgements.TreeLine.TheVariants as line
use Rattle.tree_core.specs.declared.tallies.Tally.{Tally}
use Rattle.bench_outcomes.specs.Uncovered.{Uncovered}
use Rattle.bench_outcomes.specs.declared.report.Report.{Report}
use Rattle.bench_outcomes.specs.declared.status.Status.{Status}
use Rattle.bench_outcomes.specs.declared.status.Status.TheVariants.{Done, Negative}

-- what shows the reason of a refusal: a perfect matching that crosses the cut more than once, or
-- the shore of a cut
abbrev pub shown_of : Why → Shown
shown_of not_blocks = Nothing
shown_of even = Nothing
shown_of trivial = Nothing
shown_of (not_tight m) = Matching m
shown_of (not_leaf c) = Cut c

-- the tree is a derivation of the graph: the output counts its leaves
pub record AcceptedTree (g : Graph) (t : Shape) (status : Status) (output : List ℕ) : Type 0 where
  pub derivation : IsDerivation g t
  pub tally : Tally
  pub counts : IsTally g (leaves g.order t) tally
  pub done : status ≡ Done
  pub text : output ≡ judgement_text (line.Accepted tally)

-- the tree at this place among those that are named, counted from 1, is not one: the output is its
-- first refusal
pub record RefusedTree (g : Graph) (t : Shape) (place : ℕ) (status : Status) (output : List ℕ) : Type 0 where
  pub node : ℕ
  pub why : Why
  pub refused : IsRefused g t node why
  pub negative : status ≡ Negative
  pub text : output ≡ judgement_text (line.Refused place node (why_number why) (shown_of why))

-- the graph is not covered, or the tree at this place is refused
abbrev pub RefusesTree : Graph → Shape → ℕ → Status → List ℕ → Type 0
RefusesTree g t place status output = RefusedTree g t place status output ⊎ Uncovered g status output

-- there is a report that refuses the tree at this place, or none, and the tree is a derivation
abbrev pub RefusesIfAny : Graph → Shape → ℕ → Option Report → Type 0
RefusesIfAny g t place None = IsDerivation g t
RefusesIfAny g t place (Some report) = RefusesTree g t place report.status report.bytes.items

-- the result of `check`
abbrev pub CheckGives : Graph → Shape → Status → List ℕ → Type 0
CheckGives g t status output = AcceptedTree g t status output ⊎ RefusesTree g t 1 status output
