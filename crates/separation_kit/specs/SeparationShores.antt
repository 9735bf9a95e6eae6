-- The cuts that the cut pairs of a bicritical covered graph give (Edmonds, Lovász and Pulleyblank
-- 1982).
-- Stated by: separation_kit, quick_kinds, tight_cuts.
use Rattle.std.specs.Prelude.{ℕ, Bool, List, [], ◌&&◌, flat_map, map, filter, nat_le, if◌then◌else◌}
use Rattle.graph_core.specs.from_counting.Common.{union, singleton, pair_set, mem, rising_list, rising_pairs}
use Rattle.graph_core.specs.Common.{Graph, component_count, components, is_bicritical, cuts_of}

-- deleting the two vertices leaves at least two components
abbrev pub is_cut_pair : Graph → ℕ × ℕ → Bool
is_cut_pair g k = nat_le 2 (component_count g (pair_set k.0 k.1))

-- the first vertex of the pair with each component of g - u - v, by least vertex
abbrev pub shores_at_pair : Graph → ℕ × ℕ → List (List ℕ)
shores_at_pair g k = map (λ s. rising_list g.order (union (mem s) (singleton k.0))) (components g (pair_set k.0 k.1))

-- these shores for each cut pair in lexicographic order, if the graph is bicritical and has at
-- least four vertices
unfoldable pub separation_shores : Graph → List (List ℕ)
separation_shores g = if is_bicritical g && nat_le 4 g.order then flat_map (shores_at_pair g) (filter (is_cut_pair g) (rising_pairs g.order)) else []

-- the nontrivial cuts of these shores, by canonical shores, each once
unfoldable pub separation_cuts : Graph → List (List ℕ)
separation_cuts g = cuts_of g.order (separation_shores g)
