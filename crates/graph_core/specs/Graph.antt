-- Graphs, their edges and cuts. Any textbook; but a graph is a list of pairs, and loops are
-- allowed, so that a contraction is again a graph. Edges keep their numbers, and parallel edges are
-- different edges.
-- Stated by: graph_core, grow_gen, match_search, match_core, allowed_edges and 26 more.
-- Used by: uncross, bench_outcomes, bench_top.
use Rattle.std.specs.Prelude.{◌≡◌, ◌≢◌, ℕ, ◌+◌, ◌-◌, Bool, true, List, [], ◌∷◌, ◌++◌, length, ◌==◌, ◌&&◌, ◌||◌, ◌⊎◌, not, slice_index_or}
use Rattle.vset_core.specs.from_counting.Common.{count, Within, Set}

-- the number of vertices, and for each edge its two ends
pub record Graph : Type 0 where
  pub order : ℕ
  pub ends : List (ℕ × ℕ)

-- the number of edges
abbrev pub size : Graph → ℕ
size g = length g.ends

-- the first end of edge e; edges are counted from 1
abbrev pub first_end : Graph → ℕ → ℕ
first_end g e = (slice_index_or g.ends (e - 1) (0, 0)).0

-- the second end of edge e
abbrev pub second_end : Graph → ℕ → ℕ
second_end g e = (slice_index_or g.ends (e - 1) (0, 0)).1

-- the ends of each edge are vertices
abbrev pub IsGraph : Graph → Type 0
IsGraph g = (e : ℕ) → Within (size g) e → Within g.order (first_end g e) × Within g.order (second_end g e)

-- the two ends of each edge differ
abbrev pub HasNoLoop : Graph → Type 0
HasNoLoop g = (e : ℕ) → Within (size g) e → first_end g e ≢ second_end g e

-- a multigraph: its edges join different vertices
pub record IsMultigraph (g : Graph) : Type 0 where
  pub ends : IsGraph g
  pub no_loop : HasNoLoop g

-- g with one more edge, which gets the next number
abbrev pub with_edge : Graph → ℕ → ℕ → Graph
with_edge g a b = record g { ends = g.ends ++ (a, b) ∷ [] }

-- the graph with the vertices of g and the edges of the list
abbrev pub with_ends : Graph → List (ℕ × ℕ) → Graph
with_ends g es = record { order = g.order; ends = es }

-- edge e has the ends u and v, in one order or the other
abbrev pub HasEnds : Graph → ℕ → ℕ → ℕ → Type 0
HasEnds g e u v = ((first_end g e ≡ u) × (second_end g e ≡ v)) ⊎ ((first_end g e ≡ v) × (second_end g e ≡ u))

-- the same as a test
abbrev pub has_ends : Graph → ℕ → ℕ → ℕ → Bool
has_ends g u v e = (first_end g e == u && second_end g e == v) || (first_end g e == v && second_end g e == u)

-- edge e is in ∂(x): exactly one end is in x
abbrev pub in_cut : Graph → Set → ℕ → Bool
in_cut g x e = (x (first_end g e) && not (x (second_end g e))) || (not (x (first_end g e)) && x (second_end g e))

-- both ends of edge e are in x
abbrev pub inside : Graph → Set → ℕ → Bool
inside g x e = x (first_end g e) && x (second_end g e)

-- edge e has one end in x and the other in y
abbrev pub connects : Graph → Set → Set → ℕ → Bool
connects g x y e = (x (first_end g e) && y (second_end g e)) || (y (first_end g e) && x (second_end g e))

-- |m ∩ ∂(x)|, the number of edges of m in the cut of x
abbrev pub edges_in_cut : Graph → Set → Set → ℕ
edges_in_cut g m x = count (size g) (λ e. m e && in_cut g x e)

-- the degree of v in the edges m; a loop counts twice
abbrev pub degree : Graph → Set → ℕ → ℕ
degree g m v = count (size g) (λ e. m e && (first_end g e == v)) + count (size g) (λ e. m e && (second_end g e == v))

-- some vertex set has all edges in its cut
abbrev pub IsBipartite : Graph → Type 0
IsBipartite g = (x : Set) × ((e : ℕ) → Within (size g) e → in_cut g x e ≡ true)
