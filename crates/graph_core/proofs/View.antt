-- The code's list of edges and the graph that it represents: edge e of the graph is item e - 1 of
-- the list, so that "some edge" of the graph is "some item" of the list.
use Rattle.std.proofs.Common.{rules, ◌≡◌, ℕ, ◌+◌, ◌≤◌, ◌<◌, ◌||◌, refl, sym, ap, ap₂, ◌∙◌, arith, suc, zero, List, length, get_or, take, take_all, le_refl, subst, eq-eqb, true, All, Contains}
use Rattle.vset_core.proofs.from_counting.Common.{list_any_more, list_any, get_or-map, length-map, Within, none, some}
use Rattle.graph_core.specs.Common.{IsGraph, first_end, second_end, has_ends, size, pair_of, graph_of, are_ends, adjacent}
use Rattle.graph_core.proofs.Walks.{adjacent_from}
use Rattle.graph_core.specs.declared.ends.Ends.{Ends}

-- as many edges as items
pub size-graph_of : (n : ℕ) (es : List Ends) → size (graph_of n es) ≡ length es
size-graph_of n es = length-map es pair_of

-- the ends of edge i + 1 are those of item i
pub pair-graph_of : (n : ℕ) (es : List Ends) (i : ℕ) (d : Ends) → i < length es → (first_end (graph_of n es) (suc i) ≡ (get_or es i d).a) × (second_end (graph_of n es) (suc i) ≡ (get_or es i d).b)
pair-graph_of n es i d h = grind (arith, get_or-map pair_of es i d (0, 0) h)

-- edge i + 1 has the ends u and v where item i has
pub has_ends-graph_of : (n : ℕ) (es : List Ends) (u v i : ℕ) (d : Ends) → i < length es → has_ends (graph_of n es) u v (suc i) ≡ are_ends u v (get_or es i d)
has_ends-graph_of n es u v i d h = let p = pair-graph_of n es i d h in rw (p.0, p.1) refl

-- some of the first k edges has the ends u and v where some of the first k items has
pub some-take : (n : ℕ) (es : List Ends) (u v k : ℕ) → k ≤ length es → some k (has_ends (graph_of n es) u v) ≡ list_any (are_ends u v) (take k es)
some-take n es u v zero h = refl
some-take n es u v (suc k) h =
    let d : Ends = record { a = 0; b = 0 } in
    let e : suc k ≡ k + 1 = omega arith in
    ap₂ ◌||◌ (some-take n es u v k (omega arith)) (has_ends-graph_of n es u v k d (omega arith)) ∙ sym (list_any_more (are_ends u v) es k d (omega arith)) ∙ ap (λ j. list_any (are_ends u v) (take j es)) (sym e)

-- some edge has the ends u and v where some item has
pub some-graph_of : (n : ℕ) (es : List Ends) (u v : ℕ) → some (size (graph_of n es)) (has_ends (graph_of n es) u v) ≡ list_any (are_ends u v) es
some-graph_of n es u v = search (rules, some, size-graph_of, some-take, le_refl, list_any, take_all)

-- the ends of an item are vertices
pub ends_within : (n : ℕ) (es : List Ends) (i : ℕ) (d : Ends) → IsGraph (graph_of n es) → i < length es → Within n (get_or es i d).a × Within n (get_or es i d).b
ends_within n es i d is h = grind (arith, pair-graph_of n es i d h, size-graph_of n es)

-- an edge of the list has two vertices as its ends, which it makes adjacent
pub contained_edge : (n : ℕ) (es : List Ends) (edge : Ends) → IsGraph (graph_of n es) → Contains es edge → Within n edge.a × Within n edge.b × (adjacent (graph_of n es) none edge.a edge.b ≡ true)
contained_edge n es edge is c =
    let w = ends_within n es c.0 edge is c.1 in
    let wa = subst (λ (e : Ends). Within n e.a) c.2 w.0 in
    let wb = subst (λ (e : Ends). Within n e.b) c.2 w.1 in
    let h : has_ends (graph_of n es) edge.a edge.b (suc c.0) ≡ true = has_ends-graph_of n es edge.a edge.b c.0 edge c.1 ∙ ap (are_ends edge.a edge.b) c.2 ∙ rw (eq-eqb edge.a edge.a refl, eq-eqb edge.b edge.b refl) refl in
    (wa, wb, adjacent_from (graph_of n es) none edge.a edge.b (suc c.0) refl refl (let s = size-graph_of n es in let l = c.1 in omega arith) h)

-- what is true of the ends of each item is true of the ends of each edge
pub each-edge : (P : ℕ → ℕ → Type 0) (n : ℕ) (es : List Ends) → All (λ (e : Ends). P e.a e.b) es → (e : ℕ) → Within (size (graph_of n es)) e → P (first_end (graph_of n es) e) (second_end (graph_of n es) e)
each-edge P n es h zero w = absurd (omega arith)
each-edge P n es h (suc i) w =
    let d : Ends = record { a = 0; b = 0 } in
    let l : i < length es = let s = size-graph_of n es in omega arith in
    let p = pair-graph_of n es i d l in
    subst (λ a. P a (second_end (graph_of n es) (suc i))) (sym p.0) (subst (λ b. P (get_or es i d).a b) (sym p.1) (h i d l))
