-- The parts of a graph with one more piece, and the ends of its edges as the code reads them. Idea:
-- equal parts make equal graphs, and the edge at place k of the list is edge k + 1.
use Rattle.graph_core.proofs.from_counting.Common.{◌≡◌, ℕ, ◌+◌, ◌-◌, ◌%◌, ◌<◌, List, ◌++◌, length, get_or, map, filter, not, sym, ap, ◌∙◌, arith, subst, slice_index, length-map, Within, mem}
use Rattle.std.proofs.Math.ListN.{get_or-map}
use Rattle.graph_core.proofs.Common.{IsMultigraph, size, first_end, second_end, graph_of, pair_of}
use Rattle.graph_core.specs.declared.ends.Ends.{Ends}
use Rattle.grow_gen.specs.declared.pieces.Piece.{Piece}
use Rattle.grow_gen.specs.Common.{piece_order, piece_ends, piece_graph, is_at, permutation, rehung_edges, renumbered_edge, splice, targets_of, Growth, eligible, next_class, with_piece}

-- a growing graph from its parts
abbrev growth : ℕ → List (ℕ × ℕ) → List ℕ → List ℕ → Growth
growth n es a b = record { graph = record { order = n; ends = es }; in_a = a; in_b = b }

-- the parts of a graph with one more piece
pub with_piece-parts : (s : Growth) (p : Piece) (x y w n : ℕ) (es : List (ℕ × ℕ)) (a b : List ℕ) → w ≡ slice_index (eligible s p) (x % length (eligible s p)) → n ≡ s.graph.order + piece_order p - 2 →
    es ≡ rehung_edges w (targets_of s.graph.order w (piece_graph p) (permutation (y % 6))) s.graph.ends ++ map (renumbered_edge s.graph.order w) (filter (λ e. not (is_at 1 e)) (piece_ends p)) →
    a ≡ next_class s.graph.order w p s.in_a (mem s.in_a w) → b ≡ next_class s.graph.order w p s.in_b (mem s.in_b w) → growth n es a b ≡ with_piece s p x y
unfolding with_piece splice
with_piece-parts s p x y w n es a b qw qn qe qa qb = grind arith

-- the edge of a multigraph at place k, counted from 0
pub edge-ends : (n : ℕ) (es : List Ends) (k : ℕ) → IsMultigraph (graph_of n es) → k < length es → let e : Ends = get_or es k (record { a = 0; b = 0 }) in Within n e.a × Within n e.b × (e.a ≡ e.b → ⊥)
edge-ends n es k m l = (subst (λ p. Within n p.0) here ends.0, subst (λ p. Within n p.1) here ends.1, λ q. m.no_loop (k + 1) w (ap (λ p. p.0) here ∙ q ∙ sym (ap (λ p. p.1) here)))
  where
    w : Within (size (graph_of n es)) (k + 1)
    w = let e = length-map es pair_of in (omega arith, omega arith)

    ends : Within n (first_end (graph_of n es) (k + 1)) × Within n (second_end (graph_of n es) (k + 1))
    ends = m.ends (k + 1) w

    here : get_or (map pair_of es) (k + 1 - 1) (0, 0) ≡ pair_of (get_or es k (record { a = 0; b = 0 }))
    here = ap (λ j. get_or (map pair_of es) j (0, 0)) (let q : k + 1 - 1 ≡ k = omega arith in q) ∙ get_or-map pair_of es k (record { a = 0; b = 0 })
