-- The Gallai-Edmonds sets D, A and C (Gallai 1964, Edmonds 1965; Lovász and Plummer, "Matching
-- Theory", chapter 3). They are defined for single vertices, so a statement on v also says `Within
-- g.order v`.
-- Stated by: match_core, gallai_edmonds, definition_laws, theorems.
-- Used by: graph_facts, mcg6_lines, bench_outcomes, bench_top.
use Rattle.std.specs.Prelude.{◌≡◌, ℕ, true}
use Rattle.vset_core.specs.from_counting.Common.{Within, Set, none}
use Rattle.graph_core.specs.Graph.{Graph, degree}
use Rattle.graph_core.specs.Matchings.{IsMaximum}
use Rattle.graph_core.specs.Walks.{adjacent}

-- D: some maximum matching misses v
abbrev pub InD : Graph → ℕ → Type 0
InD g v = (m : Set) × IsMaximum g none m × (degree g m v ≡ 0)

-- A: outside D, and adjacent to a vertex of D
abbrev pub InA : Graph → ℕ → Type 0
InA g v = (InD g v → ⊥) × ((w : ℕ) × Within g.order w × InD g w × (adjacent g none v w ≡ true))

-- C: in neither D nor A
abbrev pub InC : Graph → ℕ → Type 0
InC g v = (InD g v → ⊥) × (InA g v → ⊥)
