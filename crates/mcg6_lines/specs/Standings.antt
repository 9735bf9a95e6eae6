-- How a graph stands among the matching covered graphs (Lovász 1987; Lucchesi and Murty, "Perfect
-- Matchings").
-- Stated by: mcg6_lines, theorems.
use Rattle.std.specs.Prelude.{◌≡◌, ◌↔◌, ℕ, Bool, IsTrue}
use Rattle.allowed_edges.specs.from_counting.Common.{Set, none}
use Rattle.graph_core.specs.Common.{IsCovered, IsMaximum, IsReason, Graph, IsBicritical, missed_count, reason_of}
use Rattle.graph_core.specs.declared.verdict.Kind.{Kind}
use Rattle.graph_core.specs.declared.verdict.Reason.{Reason}
use Rattle.leaf_kinds.specs.LeafKinds.{IsKind}
use Rattle.tree_core.specs.Common.{IsDerivation, leaves, Shape, IsTally}
use Rattle.tree_core.specs.declared.tallies.Tally.{Tally}
pub use Rattle.mcg6_lines.specs.declared.standings.Standing.{Standing}
pub use Rattle.mcg6_lines.specs.declared.standings.Standing.TheVariants.{Uncovered, Structured}

-- some derivation of the graph has so many leaves, and so many bricks and braces among them
pub record IsCounted (g : Graph) (tally : Tally) : Type 0 where
  pub tree : Shape
  pub derivation : IsDerivation g tree
  pub counts : IsTally g (leaves g.order tree) tally

-- this is the first reason why the graph is not covered
abbrev pub IsFirstReason : Graph → Reason → Type 0
IsFirstReason g reason = IsReason g (reason_of reason)

-- the deficiency of the graph: so many vertices are missed by a maximum matching
pub record IsDeficiency (g : Graph) (deficiency : ℕ) : Type 0 where
  pub matching : Set
  pub maximum : IsMaximum g none matching
  pub misses : missed_count g none matching ≡ deficiency

-- the graph is not covered: this is the first reason why, and this its deficiency
pub record IsUncovered (g : Graph) (reason : Reason) (deficiency : ℕ) : Type 0 where
  pub first : IsFirstReason g reason
  pub missed : IsDeficiency g deficiency

-- what is said of a covered graph is right
pub record IsStructured (g : Graph) (kind : Kind) (tally : Tally) (bicritical : Bool) : Type 0 where
  pub covered : IsCovered g
  pub right_kind : IsKind g kind
  pub counted : IsCounted g tally
  pub critical : IsTrue bicritical ↔ IsBicritical g

-- the graph stands so
abbrev pub IsStanding : Graph → Standing → Type 0
IsStanding g (Uncovered reason deficiency) = IsUncovered g reason deficiency
IsStanding g (Structured kind tally bicritical) = IsStructured g kind tally bicritical
