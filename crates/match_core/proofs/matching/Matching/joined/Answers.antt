use Rattle.graph_core.proofs.from_counting.Common.{◌≡◌, true, sym, ap, ◌∙◌, subst, refl, inl, none, put, mem}
use Rattle.graph_core.proofs.Common.{size, first_end, second_end, add_edge}
use Rattle.match_search.proofs.GrownRows.{with_put}
use Rattle.match_core.specs.Common.{MatchingValue, KeepsMatching, IsOf, edges_of}
use Rattle.match_core.proofs.InsertedRows.{joined_is}
use Rattle.match_core.proofs.MatchingEdges.{joined_edges, marked_matching, marked-keeps, marked-of, marked-edges, rows-matching, rows-rise}
use Rattle.match_core.proofs.matching.Matching.joined.Goals as goal

-- the matching is that of the marked edges
made : (c : goal.In_ok-rows_with) → record { order = c.self.inside.order; rows = c.in_ok-rows_with.field-0.items } ≡ marked_matching c.args.g.now (put (mem (edges_of c.args.self.now)) c.args.e true)
made c =
    let view = ap (λ xs. let m : MatchingValue = record { order = c.self.inside.order; rows = xs } in m) c.deref.ensures.value ∙ c.self.view_is in
    joined_is c.args.g.now c.args.self.now c.args.e c.ends-a.result.a c.ends-a.result.b c.self.inside.order c.deref.result.now c.in_ok-rows_with.field-0.items
    c.requires.of c.keeps_matching.ensures c.requires.edge c.ends-a.ensures.first c.ends-a.ensures.second view c.in_ok-rows_with.ensures

pub invariant_of-result : goal.invariant_of-result
invariant_of-result c =
    let g = c.args.g.now in
    let e = c.args.e in
    let limits = c.keeps_limits.ensures in
    let added = (add_edge g none (mem (edges_of c.args.self.now)) e (first_end g e) (second_end g e) (rows-matching g c.args.self.now c.requires.of c.keeps_matching.ensures) c.requires.edge
    (limits.multigraph.no_loop e c.requires.edge) refl refl (inl (refl, refl)) c.requires.first c.requires.second).0 in
    subst KeepsMatching (sym (made c)) (marked-keeps g (put (mem (edges_of c.args.self.now)) e true) limits.multigraph.ends limits.vertices limits.edges added)

pub returns-clause-of : goal.returns-clause-of
returns-clause-of c = subst (IsOf c.args.g.now) (sym (made c)) (marked-of c.args.g.now (put (mem (edges_of c.args.self.now)) c.args.e true))

pub returns-clause-edges : goal.returns-clause-edges
returns-clause-edges c = λ i.
    let x = put (mem (edges_of c.args.self.now)) c.args.e true in
    ap (λ (m : MatchingValue). mem (edges_of m) i) (made c) ∙ ap (λ es. mem es i) (marked-edges c.args.g.now x)
    ∙ joined_edges (size c.args.g.now) (edges_of c.args.self.now) x c.args.e c.requires.edge (rows-rise c.args.g.now c.args.self.now c.requires.of c.keeps_matching.ensures) (λ j. sym (with_put (mem (edges_of c.args.self.now)) c.args.e j)) i
