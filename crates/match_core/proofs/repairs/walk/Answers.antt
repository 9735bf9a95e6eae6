use Rattle.std.proofs.Common.{◌≡◌, ℕ, List, [], ◌++◌, ◌∷◌, length, sym, ap, ◌∙◌, subst, arith}
use Rattle.graph_core.proofs.Common.{graph_of}
use Rattle.match_search.specs.Common.{IsWalk, IsRepairRow, Misses}
use Rattle.match_search.proofs.GraphRows.{row_graph, missed_degree}
use Rattle.match_core.proofs.RepairWalks.{here_outside, here_short, here_within, walk_start, walk_more, walk_end, next_within, next_outside, appended_length}
use Rattle.match_core.proofs.NamedEdges.{mate_pair, perfect_named}
use Rattle.match_core.proofs.repairs.walk.Goals as goal

pub walking-init : goal.walking-init
walking-init c = λ n r m w h. subst (λ (es : List ℕ). IsWalk (graph_of n c.args.ends.now) r m w c.args.x es c.args.x) (sym c.new-edges.ensures.items) (walk_start (graph_of n c.args.ends.now) (row_graph n c.args.ends.now h.row.within) r m w h.matching h.perfect c.args.x h.missed)

pub mate_at-requires-clause-within : goal.mate_at-requires-clause-within
mate_at-requires-clause-within c =
    let q = c.requires in
    let here = here_within q.0 q.1 q.2 q.3 c.args.ends.now c.args.at.now c.args.other.now c.args.x q.4 c.walking.edges.items c.walking.v (c.walking.invariant q.0 q.1 q.2 q.3 q.4) in
    let long = q.4.other_long in omega arith

pub unreachable-requires : goal.unreachable-requires
unreachable-requires c =
    let q = c.requires in
    absurd (perfect_named q.0 c.args.ends.now q.1 q.3 c.args.other.now q.4.other_named q.4.perfect c.walking.v
    (here_within q.0 q.1 q.2 q.3 c.args.ends.now c.args.at.now c.args.other.now c.args.x q.4 c.walking.edges.items c.walking.v (c.walking.invariant q.0 q.1 q.2 q.3 q.4))
    (here_outside q.0 q.1 q.2 q.3 c.args.ends.now c.args.at.now c.args.other.now c.args.x q.4 c.walking.edges.items c.walking.v (c.walking.invariant q.0 q.1 q.2 q.3 q.4))
    (c.mate_at.ensures.none c.in-None.is))

pub returns-in-None-mate_at : goal.returns-in-None-mate_at
returns-in-None-mate_at c = λ n r m w h.
    let e = c.mate_at.ensures.edge c.in-Some.next c.in-Some.is in
    let pair = mate_pair n c.args.ends.now w c.args.other.now h.other_named c.walking.v c.in-Some.next.edge c.in-Some.next.vertex e.0 e.1 (c.mate_at.ensures.vertex c.in-Some.next c.in-Some.is) in
    let missed : Misses (graph_of n c.args.ends.now) r m c.in-Some.next.vertex = record {
      within = next_within (graph_of n c.args.ends.now) (row_graph n c.args.ends.now h.row.within) r m w h.matching h.perfect c.args.x c.walking.edges.items c.walking.v (c.walking.invariant n r m w h) c.in-Some.next.edge c.in-Some.next.vertex pair.0 pair.1 pair.2;
      outside = next_outside (graph_of n c.args.ends.now) (row_graph n c.args.ends.now h.row.within) r m w h.matching h.perfect c.args.x c.walking.edges.items c.walking.v (c.walking.invariant n r m w h) c.in-Some.next.edge c.in-Some.next.vertex pair.0 pair.1 pair.2;
      missed = missed_degree n c.args.ends.now m c.args.at.now h.named c.in-Some.next.vertex (c.mate_at-in-walking.ensures.none c.in-None-mate_at.is);
    } in
    subst (λ (es : List ℕ). IsRepairRow (graph_of n c.args.ends.now) r m c.args.x es) (sym c.in_ok-push.ensures.items)
    (walk_end (graph_of n c.args.ends.now) (row_graph n c.args.ends.now h.row.within) r m w h.matching h.perfect c.args.x c.walking.edges.items c.walking.v (c.walking.invariant n r m w h) c.in-Some.next.edge c.in-Some.next.vertex pair.0 pair.1 pair.2 h.two h.missed missed)

pub walking-smaller : goal.walking-smaller
walking-smaller c =
    let q = c.requires in
    let short = here_short q.0 q.1 q.2 q.3 c.args.ends.now c.args.at.now c.args.other.now c.args.x q.4 c.walking.edges.items c.walking.v (c.walking.invariant q.0 q.1 q.2 q.3 q.4) in
    let long = q.4.at_long in
    let a = ap (λ (xs : List ℕ). length xs) c.in_ok-push.ensures.items ∙ appended_length c.walking.edges.items c.in-Some.next.edge in
    let b = ap (λ (xs : List ℕ). length xs) c.in_ok-push-in-Some-mate_at.ensures.items ∙ appended_length c.push.new.self.items c.in-Some-mate_at.back.edge in
    omega arith

pub walking-preserved : goal.walking-preserved
walking-preserved c = λ n r m w h.
    let e = c.mate_at.ensures.edge c.in-Some.next c.in-Some.is in
    let pair = mate_pair n c.args.ends.now w c.args.other.now h.other_named c.walking.v c.in-Some.next.edge c.in-Some.next.vertex e.0 e.1 (c.mate_at.ensures.vertex c.in-Some.next c.in-Some.is) in
    let d = c.mate_at-in-walking.ensures.edge c.in-Some-mate_at.back c.in-Some-mate_at.is in
    let own = mate_pair n c.args.ends.now m c.args.at.now h.named c.in-Some.next.vertex c.in-Some-mate_at.back.edge c.in-Some-mate_at.back.vertex d.0 d.1 (c.mate_at-in-walking.ensures.vertex c.in-Some-mate_at.back c.in-Some-mate_at.is) in
    let items : c.push-in-Some-mate_at.new.self.items ≡ (c.walking.edges.items ++ c.in-Some.next.edge ∷ []) ++ c.in-Some-mate_at.back.edge ∷ [] = c.in_ok-push-in-Some-mate_at.ensures.items ∙ ap (λ (xs : List ℕ). xs ++ c.in-Some-mate_at.back.edge ∷ []) c.in_ok-push.ensures.items in
    subst (λ (es : List ℕ). IsWalk (graph_of n c.args.ends.now) r m w c.args.x es c.in-Some-mate_at.back.vertex) (sym items)
    (walk_more (graph_of n c.args.ends.now) (row_graph n c.args.ends.now h.row.within) r m w h.matching h.perfect c.args.x c.walking.edges.items c.walking.v (c.walking.invariant n r m w h) c.in-Some.next.edge c.in-Some.next.vertex pair.0 pair.1 pair.2 c.in-Some-mate_at.back.edge c.in-Some-mate_at.back.vertex own.0 own.1 own.2)
