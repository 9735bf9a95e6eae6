-- Components of G - S: the sets of vertices that walks join. Any textbook; a component is counted
-- at its least vertex.
-- Stated by: graph_core, allowed_edges, graph_facts, barrier_kit, separation_kit and 4 more.
-- Used by: grow_gen, match_core, brick_kit, two_ears, mcg6_lines, bench_outcomes.
use Rattle.std.specs.Prelude.{ℕ, List, ◌&&◌, not, nat_lt, map}
use Rattle.vset_core.specs.from_counting.Common.{count, is_odd, Within, Set, none, some, rising_list}
use Rattle.graph_core.specs.Graph.{Graph}
use Rattle.graph_core.specs.Walks.{Joined, joined}

-- u is the least vertex of a component of g - s
abbrev pub is_least : Graph → Set → Set
is_least g s u = not (s u) && not (some g.order (λ v. joined g s u v && nat_lt v u))

-- the number of components of g - s
unfoldable pub component_count : Graph → Set → ℕ
component_count g s = count g.order (is_least g s)

-- o(s): the number of components of g - s that have an odd number of vertices
unfoldable pub odd_component_count : Graph → Set → ℕ
odd_component_count g s = count g.order (λ u. is_least g s u && is_odd (count g.order (joined g s u)))

-- the components of g - s as increasing lists, by least vertex
unfoldable pub components : Graph → Set → List (List ℕ)
components g s = map (λ u. rising_list g.order (joined g s u)) (rising_list g.order (is_least g s))

-- g is connected: all vertices are in one component
abbrev pub IsConnected : Graph → Type 0
IsConnected g = (u v : ℕ) → Within g.order u → Within g.order v → Joined g none u v
