-- Simple graphs: no two edges join the same two vertices. Any textbook.
-- Stated by: graph_core, grow_gen, graph6_text, mcg6_lines, bench_tasks.
-- Used by: mcg6_encoder, theorems.
use Rattle.std.specs.Prelude.{◌≡◌, ℕ, true}
use Rattle.vset_core.specs.from_counting.Common.{Within}
use Rattle.graph_core.specs.Graph.{Graph, size, first_end, second_end, has_ends}

-- an edge with the same ends as edge e is edge e itself
abbrev pub IsSimple : Graph → Type 0
IsSimple g = (e f : ℕ) → Within (size g) e → Within (size g) f → has_ends g (first_end g e) (second_end g e) f ≡ true → e ≡ f
