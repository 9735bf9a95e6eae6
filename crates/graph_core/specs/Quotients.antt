-- The quotient at a partition: one vertex for each block, one edge for each pair of adjacent
-- blocks, and for each edge of the quotient the edges of the graph between its blocks. Contraction
-- as in Lovász 1987; but parallel edges become one edge, which changes no tight cut.
-- Stated by: graph_core, contraction, tree_core, tight_cuts, tree_check, report_text, theorems.
-- Used by: move_laws, uncross, mcg6_lines.
use Rattle.std.specs.Prelude.{ℕ, ◌==◌, ◌&&◌, not, Bool, List, length, filter, slice_index}
use Rattle.vset_core.specs.from_counting.Common.{Set, some, mem, rising_list, rising_pairs}
use Rattle.graph_core.specs.Graph.{Graph, size, first_end, second_end, has_ends}
use Rattle.graph_core.specs.Partitions.{block, contracted}

-- the blocks at the places i and j differ and are adjacent
abbrev pub blocks_adjacent : Graph → List (List ℕ) → ℕ → ℕ → Bool
blocks_adjacent g p i j = not (i == j) && some (size g) (has_ends (contracted g p) i j)

-- the edges of g between the blocks at the places i and j, in increasing order
abbrev pub edges_between : Graph → List (List ℕ) → ℕ → ℕ → List ℕ
edges_between g p i j = rising_list (size g) (has_ends (contracted g p) i j)

-- one vertex for each block, by place, and one edge for each adjacent pair, in lexicographic order
unfoldable pub quotient : Graph → List (List ℕ) → Graph
quotient g p = record { order = length p; ends = filter (λ k. blocks_adjacent g p k.0 k.1) (rising_pairs (length p)) }

-- the remembered edges of edge k of the quotient: the edges of g between its two blocks
abbrev pub remembered : Graph → List (List ℕ) → ℕ → List ℕ
remembered g p k = edges_between g p (first_end (quotient g p) k) (second_end (quotient g p) k)

-- the union of the blocks at the places in x
abbrev pub union_of_blocks : Graph → List (List ℕ) → Set → List ℕ
union_of_blocks g p x = rising_list g.order (λ v. some (length p) (λ i. x i && mem (block p i) v))

-- the lift of a set of edges of the quotient: for each the least remembered edge, in increasing
-- order
abbrev pub lifted : Graph → List (List ℕ) → Set → List ℕ
lifted g p m = rising_list (size g) (λ e. some (size (quotient g p)) (λ k. m k && (slice_index (remembered g p k) 0 == e)))

-- the projection of a set of edges of the graph: the edges of the quotient that remember one of
-- them
abbrev pub projected : Graph → List (List ℕ) → Set → Set
projected g p m k = some (size g) (λ e. m e && mem (remembered g p k) e)
