-- What the lines of a report claim of a graph.
-- Stated by: bench_reports. Used by: bench_outcomes, bench_top, theorems.
use Rattle.std.specs.Prelude.{◌≡◌, ◌↔◌, ℕ, IsTrue, Option, Some, None, option_map}
use Rattle.tree_check.specs.from_counting.Common.{count, Set, none, Lists}
use Rattle.graph_core.specs.Common.{Graph, size, IsBipartite, component_count, Allowed, IsMaximum, missed_count, InD, InA, InC, classes, cut_pair, equivalent_pair, IsVerdict, pair_of}
use Rattle.graph_core.specs.declared.verdict.Verdict.{Verdict}
use Rattle.graph_core.specs.declared.verdict.Verdict.TheVariants.{Covered, NotCovered}
use Rattle.tree_check.specs.from_tight_cuts.Common.{candidates, first_shore}
use Rattle.leaf_kinds.specs.LeafKinds.{IsKind, cut_of}
use Rattle.report_text.specs.declared.analyses.AnalysisLines.{AnalysisLines}
use Rattle.report_text.specs.declared.structures.Structure.{Structure}

-- some maximum matching has so many edges and misses so many vertices
pub record HasMaximum (g : Graph) (edges missed : ℕ) : Type 0 where
  pub matching : Set
  pub maximum : IsMaximum g none matching
  pub size_is : count (size g) matching ≡ edges
  pub misses : missed_count g none matching ≡ missed

-- each line on the structure of a covered graph is correct: the classes are those of the canonical
-- partition; the pairs are the first u < v such that G - u - v has no perfect matching, and the
-- first such that it has at least two components; the kind comes with the shore of the first
-- candidate, if there is one
pub record IsStructure (g : Graph) (structure : Structure) : Type 0 where
  pub partition : structure.classes ≡ classes g
  pub equivalent : option_map pair_of structure.unlike ≡ equivalent_pair g
  pub separates : option_map pair_of structure.cutpair ≡ cut_pair g
  pub kind : IsKind g structure.kind
  pub cut : cut_of structure.kind ≡ first_shore (candidates g)

-- the structure is given if and only if the graph is covered, and is correct
abbrev pub TellsStructure : Graph → Verdict → Option Structure → Type 0
TellsStructure g Covered None = ⊥
TellsStructure g Covered (Some structure) = IsStructure g structure
TellsStructure g (NotCovered reason) None = Unit {0}
TellsStructure g (NotCovered reason) (Some structure) = ⊥

-- each line of `analyse` is correct
pub record IsAnalysis (g : Graph) (lines : AnalysisLines) : Type 0 where
  pub order : lines.order ≡ g.order
  pub edges : lines.size ≡ size g
  pub components : lines.components ≡ component_count g none
  pub bipartite : IsTrue lines.bipartite ↔ IsBipartite g
  pub maximum : HasMaximum g lines.matching lines.deficiency
  pub d : Lists g.order lines.d (InD g)
  pub a : Lists g.order lines.a (InA g)
  pub c : Lists g.order lines.c (InC g)
  pub allowed : Lists (size g) lines.allowed (Allowed g)
  pub verdict : IsVerdict g lines.verdict
  pub structure : TellsStructure g lines.verdict lines.structure
