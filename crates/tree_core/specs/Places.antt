-- Places in a derivation as contracts see them: a graph and the blocks of a partition of its
-- vertices.
-- Stated by: tree_core, decomposer, tree_check, report_text, mcg6_lines, bench_reports.
-- Used by: tight_cuts, uncross.
use Rattle.std.specs.Prelude.{◌≡◌, ◌≢◌, ◌==◌, ℕ, List, length, Option, Some, None, if◌then◌else◌}
use Rattle.graph_core.specs.Common.{Graph, quotient}

-- the graph, and the blocks by rising name
pub record PlaceValue : Type 0 where
  pub graph : Graph
  pub blocks : List (List ℕ)

-- the place of these blocks
abbrev pub place_of : Graph → List (List ℕ) → PlaceValue
place_of g p = record { graph = g; blocks = p }

-- the graph that is seen at p: at single vertices g itself, else the quotient
unfoldable pub seen_at : Graph → List (List ℕ) → Graph
seen_at g p = if length p == g.order then g else quotient g p

-- nothing at single vertices, and else the quotient
abbrev pub IsSeen : Graph → List (List ℕ) → Option Graph → Type 0
IsSeen g p None = length p ≡ g.order
IsSeen g p (Some q) = (length p ≢ g.order) × (q ≡ quotient g p)
