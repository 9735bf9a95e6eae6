-- The edges of the quotient as the code finds them: each edge of the graph goes to the places of
-- its ends, each place has a row of later neighbours, and the rows in order give the adjacent
-- pairs in lexicographic order, each once.
use Rattle.graph_core.proofs.from_counting.Common.{◌≡◌, ◌≢◌, ℕ, ◌+◌, ◌<◌, cond, List, [], ◌∷◌, ◌++◌, length, sym, ap, ◌∙◌, arith, map, get_or, map-map, rising_list}
use Rattle.graph_core.proofs.Common.{has_ends-graph_of, pair-graph_of, size-graph_of, HasNoLoop, has_ends, contracted, place, are_ends, graph_of, pair_of}
use Rattle.graph_core.specs.declared.ends.Ends.{Ends}

-- the ends as places
pub ends-contracted : (n : ℕ) (p : List (List ℕ)) (edges ends : List Ends) → map pair_of ends ≡ map (λ (e : Ends). (place p e.a, place p e.b)) edges → graph_of (length p) ends ≡ contracted (graph_of n edges) p
unfolding contracted
ends-contracted n p edges ends h = ap (λ (ks : List (ℕ × ℕ)). record { order = length p; ends = ks }) (h ∙ sym (map-map (λ (k : ℕ × ℕ). (place p k.0, place p k.1)) pair_of edges))

-- the next edge goes after those before it where it has the two ends
pub edges-more : (es : List Ends) (a b k : ℕ) (before after : List ℕ) (d : Ends) → k < length es → before ≡ rising_list k (has_ends (graph_of 0 es) a b) → after ≡ before ++ cond (are_ends a b (get_or es k d)) ((k + 1) ∷ []) [] → after ≡ rising_list (k + 1) (has_ends (graph_of 0 es) a b)
edges-more es a b k before after d l old new = grind (arith, has_ends-graph_of 0 es a b k d l)

-- the ends of an item differ
pub ends_differ : (n : ℕ) (es : List Ends) (i : ℕ) (d : Ends) → HasNoLoop (graph_of n es) → i < length es → (get_or es i d).a ≢ (get_or es i d).b
ends_differ n es i d no_loop l e = grind (arith, pair-graph_of n es i d l, size-graph_of n es)
