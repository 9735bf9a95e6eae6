-- Splicing (Lucchesi and Murty, "Perfect Matchings"): a vertex of one graph and a vertex of another
-- are deleted, and the edges that ended there are joined in pairs. The deleted vertex of the second
-- graph is always its vertex 1.
-- Stated by: grow_gen. Used by: bench_outcomes.
use Rattle.std.specs.Prelude.{ℕ, ◌+◌, ◌-◌, Bool, List, [], ◌∷◌, ◌++◌, ◌==◌, ◌||◌, not, map, filter, slice_index, slice_index_or, if◌then◌else◌}
use Rattle.graph_core.specs.Common.{Graph}

-- the edge is at v
abbrev pub is_at : ℕ → ℕ × ℕ → Bool
is_at v e = e.0 == v || e.1 == v

-- the other end of an edge at v
abbrev pub end_opposite : ℕ → ℕ × ℕ → ℕ
end_opposite v e = if e.0 == v then e.1 else e.0

-- the other ends of the edges at v, in the order of the edges
abbrev pub neighbours : Graph → ℕ → List ℕ
neighbours g v = map (end_opposite v) (filter (is_at v) g.ends)

-- the six permutations of 1, 2, 3 in lexicographic order
abbrev pub permutations : List (List ℕ)
permutations = (1 ∷ 2 ∷ 3 ∷ []) ∷ (1 ∷ 3 ∷ 2 ∷ []) ∷ (2 ∷ 1 ∷ 3 ∷ []) ∷ (2 ∷ 3 ∷ 1 ∷ []) ∷ (3 ∷ 1 ∷ 2 ∷ []) ∷ (3 ∷ 2 ∷ 1 ∷ []) ∷ []

-- permutation i, counted from 0
abbrev pub permutation : ℕ → List ℕ
permutation i = slice_index_or permutations i []

-- the number that vertex x of a graph gets when it is spliced at w into a graph of n vertices: 2
-- becomes w, and 3 and the further ones follow n
abbrev pub new_number : ℕ → ℕ → ℕ → ℕ
new_number n w x = if x == 2 then w else n + x - 2

-- the edge with its end w replaced by t
abbrev pub edge_with_end : ℕ → ℕ → ℕ × ℕ → ℕ × ℕ
edge_with_end w t e = if e.0 == w then (t, e.1) else (e.0, t)

-- the edges, with the targets in turn as the new ends of those at w; all keep their places
abbrev pub rehung_edges : ℕ → List ℕ → List (ℕ × ℕ) → List (ℕ × ℕ)
rehung_edges w targets [] = []
rehung_edges w [] (e ∷ es) = e ∷ es
rehung_edges w (t ∷ targets) (e ∷ es) = if is_at w e then edge_with_end w t e ∷ rehung_edges w targets es else e ∷ rehung_edges w (t ∷ targets) es

-- the new numbers of the neighbours of vertex 1 of h, in the order of a permutation
abbrev pub targets_of : ℕ → ℕ → Graph → List ℕ → List ℕ
targets_of n w h order = map (λ p. new_number n w (slice_index (neighbours h 1) (p - 1))) order

-- the edge with new numbers for its ends
abbrev pub renumbered_edge : ℕ → ℕ → ℕ × ℕ → ℕ × ℕ
renumbered_edge n w e = (new_number n w e.0, new_number n w e.1)

-- h spliced with its vertex 1 into g at w: the i-th edge at w ends at the neighbour of vertex 1
-- that the permutation names at place i, and the edges of h that are not at vertex 1 follow
unfoldable pub splice : Graph → ℕ → Graph → List ℕ → Graph
splice g w h order = record {
  order = g.order + h.order - 2;
  ends = rehung_edges w (targets_of g.order w h order) g.ends ++ map (renumbered_edge g.order w) (filter (λ e. not (is_at 1 e)) h.ends);
}
