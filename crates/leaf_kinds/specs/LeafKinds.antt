-- The kind of a covered graph: brace, brick or composite (Lovász 1987; Lucchesi and Murty,
-- "Perfect Matchings").
-- Stated by: leaf_kinds, mcg6_lines. Used by: bench_outcomes, theorems.
use Rattle.std.specs.Prelude.{ℕ, ◌≤◌, List, Option, Some, None}
use Rattle.graph_core.specs.from_counting.Common.{mem}
use Rattle.graph_core.specs.Common.{Graph, IsBipartite, IsBicritical, IsCutPair, IsTight, IsNontrivial, HasOnlyTrivialTightCuts}
use Rattle.graph_core.specs.declared.verdict.Kind.{Kind}
use Rattle.graph_core.specs.declared.verdict.Kind.TheVariants.{Brace, Brick, Composite}

-- a brace is bipartite and a brick is not, and neither has a nontrivial tight cut; a composite
-- graph comes with the shore of one
abbrev pub IsKind : Graph → Kind → Type 0
IsKind g Brace = IsBipartite g × HasOnlyTrivialTightCuts g
IsKind g Brick = (¬ IsBipartite g) × HasOnlyTrivialTightCuts g
IsKind g (Composite cut) = IsTight g (mem cut) × IsNontrivial g.order (mem cut)

-- the shore that shows a composite graph
abbrev pub cut_of : Kind → Option (List ℕ)
cut_of Brace = None
cut_of Brick = None
cut_of (Composite cut) = Some cut

-- at least four vertices, bicritical, and still connected after deleting any two vertices
pub record IsThreeConnectedAndBicritical (g : Graph) : Type 0 where
  pub four : 4 ≤ g.order
  pub bicritical : IsBicritical g
  pub connected : (u v : ℕ) → ¬ IsCutPair g u v
