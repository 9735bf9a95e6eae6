-- All sets of numbers 1 to n, and those of edges that are perfect matchings.
-- Stated by: plain_graph.
use Rattle.std.specs.Prelude.{ℕ, zero, suc, List, [], ◌∷◌, ◌++◌, filter, map}
use Rattle.allowed_edges.specs.from_counting.Common.{mem, Set}
use Rattle.graph_core.specs.Common.{Graph, size, is_perfect}

-- all sets of numbers 1 to n as increasing lists: those without n, then those with n
abbrev pub subsets : ℕ → List (List ℕ)
subsets zero = [] ∷ []
subsets (suc n) = subsets n ++ map (λ xs. xs ++ suc n ∷ []) (subsets n)

-- the perfect matchings of g - r, as increasing lists of edges
abbrev pub perfect_matchings_of : Graph → Set → List (List ℕ)
perfect_matchings_of g r = filter (λ m. is_perfect g r (mem m)) (subsets (size g))
