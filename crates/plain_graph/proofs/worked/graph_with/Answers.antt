use Rattle.allowed_edges.proofs.from_counting.Common.{◌≡◌, IsErrOf, Result, Err, sym, ap, ◌∙◌, subst, arith, err_from_is_err_and, Within}
use Rattle.graph_core.proofs.Common.{IsMultigraph}
use Rattle.plain_graph.proofs.ReachedEdges.{first_pairs-join, first_pairs-size, reached}
use Rattle.plain_graph.specs.EdgeFaults.{pair_at}
use Rattle.plain_graph.proofs.worked.graph_with.Goals as goal

-- the error of one result is that of another, whatever the two may hold
same_error : {T U E : Type 0} {e f : E} (r : Result T E) → r ≡ Err e → IsErrOf r f → IsErrOf {T = U} (Err e) f
same_error {e = e} {f} r is says = let same : e ≡ f = cc in ap Err same

pub returns-in_err-add_edge-clause-range : goal.returns-in_err-add_edge-clause-range
returns-in_err-add_edge-clause-range c is =
    let p = err_from_is_err_and c.from_residual-in_err-add_edge.result c.from_residual-in_err-add_edge.ensures.1 in
    let e = pair_at c.args.edges.now c.loop-edge.edge-index in (
      c.loop-edge.edge-index,
      reached c.args.order c.loop-edge.edge-index c.args.edges.now c.loop-edge.graph c.loop-edge.invariant c.keeps_limits.ensures c.loop-edge-test.true,
      (λ both. c.in_err-add_edge.ensures.range.0 (same_error _ (p.1 ∙ ap Err p.2) is) (subst (λ n. Within n e.0 × Within n e.1) (sym (ap (λ g. g.order) c.loop-edge.invariant)) both)),
    )

pub returns-in_err-add_edge-clause-equal : goal.returns-in_err-add_edge-clause-equal
returns-in_err-add_edge-clause-equal c is =
    let p = err_from_is_err_and c.from_residual-in_err-add_edge.result c.from_residual-in_err-add_edge.ensures.1 in
    let e = pair_at c.args.edges.now c.loop-edge.edge-index in
    let same = c.in_err-add_edge.ensures.equal.0 (same_error _ (p.1 ∙ ap Err p.2) is) in (
      c.loop-edge.edge-index,
      reached c.args.order c.loop-edge.edge-index c.args.edges.now c.loop-edge.graph c.loop-edge.invariant c.keeps_limits.ensures c.loop-edge-test.true,
      subst (λ n. Within n e.0) (ap (λ g. g.order) c.loop-edge.invariant) same.0,
      same.1,
    )

pub returns-in_err-add_edge-clause-too_many : goal.returns-in_err-add_edge-clause-too_many
returns-in_err-add_edge-clause-too_many c is =
    let p = err_from_is_err_and c.from_residual-in_err-add_edge.result c.from_residual-in_err-add_edge.ensures.1 in
    let e = pair_at c.args.edges.now c.loop-edge.edge-index in
    let full = c.in_err-add_edge.ensures.too_many.0 (same_error _ (p.1 ∙ ap Err p.2) is) in
    let order = ap (λ g. g.order) c.loop-edge.invariant in (
      c.loop-edge.edge-index,
      reached c.args.order c.loop-edge.edge-index c.args.edges.now c.loop-edge.graph c.loop-edge.invariant c.keeps_limits.ensures c.loop-edge-test.true,
      record { first = subst (λ n. Within n e.0) order full.0; second = subst (λ n. Within n e.1) order full.1; different = full.2 },
      sym (first_pairs-size c.args.order c.loop-edge.edge-index c.args.edges.now c.loop-edge.graph c.loop-edge.invariant c.loop-edge-test.true) ∙ full.3,
    )

pub returns-clause-fits : goal.returns-clause-fits
returns-clause-fits c k less =
    first_pairs-join c.args.order c.loop-edge.edge-index c.args.edges.now c.loop-edge.auto.edge-index-end (subst IsMultigraph c.loop-edge.invariant c.keeps_limits-2.ensures.multigraph) k (let i = c.loop-edge-test.false in omega arith)
