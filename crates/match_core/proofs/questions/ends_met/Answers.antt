use Rattle.graph_core.proofs.from_counting.Common.{◌≡◌, ◌-◌, ◌==◌, ◌||◌, true, false, refl, sym, subst, ap, ◌∙◌, arith, eq-eqb, length, get_or, both_ways, mem-item, fun_ext, bit, Set, none, put, mem}
use Rattle.graph_core.proofs.Common.{degree, perfect_matching}
use Rattle.match_search.specs.Common.{marks, end_a, end_b, MeetOnce}
use Rattle.match_search.proofs.GrownRows.{with_put}
use Rattle.match_search.proofs.FirstMarks.{addable, empty_degree}
use Rattle.match_search.proofs.Gluing.{meet_more, meet_none, mem-more, mem-take, mem-again, mem-take_all}
use Rattle.match_search.proofs.WholeGraphs.{whole_pair, whole_size, whole_within}
use Rattle.match_core.proofs.questions.ends_met.Goals as goal
use Rattle.match_core.proofs.questions.ends_met.Goals.{then-not-is_marked+else-not-is_addable, else-not-is_marked}

pub loop-edge-init : goal.loop-edge-init
loop-edge-init c = grind (arith, empty_degree c.args.g.now (marks c.in_ok-mark.mark.items) c.in_ok-mark.ensures.each)

pub returns-then-not-is_addable-clause-none : goal.returns-then-not-is_addable-clause-none
returns-then-not-is_addable-clause-none c = λ q p.
    let k = c.loop-edge.edge-index in
    let e = get_or c.args.edges.now c.loop-edge.edge-index 0 in
    let we = c.requires c.loop-edge.edge-index 0 c.loop-edge-test.true in
    let ends = c.edges-ends.result.now in
    let limits = c.edges-ends.ensures.limits in
    let size = whole_size c.args.g.now c.args.g.now.order c.edges-ends.result.now refl c.edges-ends.ensures.edges in
    let within = whole_within c.args.g.now c.args.g.now.order c.edges-ends.result.now refl c.edges-ends.ensures.edges limits.multigraph.ends in
    let unmarked : marks c.loop-edge.mark.items e ≡ false = sym (c.is_marked.ensures ∙ ap (λ row. marks row e) c.deref.ensures.value) ∙ c.if-not-is_marked.true in
    meet_none c.args.g.now (marks c.loop-edge.mark.items) (mem c.loop-edge.met) e (end_a ends (e - 1)) (end_b ends (e - 1)) limits.multigraph.ends we
    (whole_pair c.args.g.now c.args.g.now.order c.edges-ends.result.now refl c.edges-ends.ensures.edges e we)
    (within.a (e - 1) (omega arith)) (within.b (e - 1) (omega arith)) unmarked c.loop-edge.invariant.once (sym c.is_addable.ensures ∙ c.if-not-is_addable.true)
    p.0 (perfect_matching c.args.g.now none p.0 p.1) (λ i ci. p.2 i (mem-take c.args.edges.now k i (sym (c.loop-edge.invariant.edges i) ∙ ci))) (p.2 e (mem-item c.args.edges.now k 0 c.loop-edge-test.true))

pub loop-edge-preserved : goal.loop-edge-preserved
loop-edge-preserved c = elim c.if-not-is_marked.branch [
  | then-not-is_marked+else-not-is_addable w ↦
      let k = c.loop-edge.edge-index in
      let e = get_or c.args.edges.now c.loop-edge.edge-index 0 in
      let we = c.requires c.loop-edge.edge-index 0 c.loop-edge-test.true in
      let a = end_a c.edges-ends.result.now (get_or c.args.edges.now c.loop-edge.edge-index 0 - 1) in
      let b = end_b c.edges-ends.result.now (get_or c.args.edges.now c.loop-edge.edge-index 0 - 1) in
      let unmarked : marks c.loop-edge.mark.items e ≡ false = sym (c.is_marked.ensures ∙ ap (λ row. marks row e) c.deref.ensures.value) ∙ w.if-not-is_marked.true in
      let t = addable (a == b) (mem c.loop-edge.met a) (mem c.loop-edge.met b) (sym w.is_addable.ensures ∙ w.if-not-is_addable.false) in
      let once = meet_more c.args.g.now (marks c.loop-edge.mark.items) (mem c.loop-edge.met) (mem c.if-not-is_marked.met) e a b we
      (whole_pair c.args.g.now c.args.g.now.order c.edges-ends.result.now refl c.edges-ends.ensures.edges e we)
      (λ q. both_ways (a == b) t.0 (eq-eqb a b q)) unmarked c.loop-edge.invariant.once t.1 t.2
      (λ v. ap (λ m. mem m v) w.met-is ∙ w.with-met.ensures v ∙ ap (λ s. s || (b == v)) (w.with.ensures v)) in
      let now : marks c.if-not-is_marked.mark.items ≡ put (marks c.loop-edge.mark.items) e true = fun_ext (λ i. ap (λ m. marks m.items i) w.mark-is ∙ w.mark_place.ensures.each i) in
      record {
        long = ap (λ m. length m.items) w.mark-is ∙ w.mark_place.ensures.length ∙ c.loop-edge.invariant.long;
        edges = λ i. ap (λ (m : Set). m i) now ∙ sym (with_put (marks c.loop-edge.mark.items) e i) ∙ ap (λ b. b || (e == i)) (c.loop-edge.invariant.edges i) ∙ sym (mem-more c.args.edges.now k i c.loop-edge-test.true);
        once = subst (λ (m : Set). MeetOnce c.args.g.now m (mem c.if-not-is_marked.met)) (sym now) once;
      }
  | else-not-is_marked w ↦ grind (arith, mem-again, mem-more c.args.edges.now)
]

pub returns-clause-once : goal.returns-clause-once
returns-clause-once c = λ m q.
    let same : c.loop-edge.met ≡ m = cc in
    let all : marks c.loop-edge.mark.items ≡ mem c.args.edges.now = fun_ext (λ i. c.loop-edge.invariant.edges i ∙ mem-take_all c.args.edges.now c.loop-edge.edge-index i c.loop-edge-test.false) in
    λ v w. ap (λ (s : Set). degree c.args.g.now s v) (sym all) ∙ c.loop-edge.invariant.once v w ∙ ap (λ s. bit (mem s v)) same
