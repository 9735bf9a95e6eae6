use Rattle.std.proofs.Common.{sym, ap, ◌∙◌, subst}
use Rattle.match_search.specs.Common.{marks}
use Rattle.match_core.specs.Common.{KeepsMatching, IsOf, edges_of}
use Rattle.match_core.proofs.MatchingEdges.{marked-keeps, marked-of, marked-edges, whole_marked}
use Rattle.match_search.proofs.WholeGraphs.{limits_row}
use Rattle.match_core.proofs.matching.matching_of.Goals as goal

pub marked_rows-requires-clause-row : goal.marked_rows-requires-clause-row
marked_rows-requires-clause-row c = limits_row c.args.g.now c.order-n.result c.edges-ends.result.now c.order-n.ensures.is c.edges-ends.ensures.edges c.edges-ends.ensures.limits

pub invariant_of-result : goal.invariant_of-result
invariant_of-result c =
    let made = whole_marked c.args.g.now c.order-n.result c.edges-ends.result.now c.order-n.ensures.is c.edges-ends.ensures.edges (marks c.args.mark.now) c.in_ok-marked_rows.field-0.items c.in_ok-marked_rows.ensures in
    let limits = c.edges-ends.ensures.limits in
    subst KeepsMatching (sym made) (marked-keeps c.args.g.now (marks c.args.mark.now) limits.multigraph.ends limits.vertices limits.edges c.requires.matching)

pub returns-clause-of : goal.returns-clause-of
returns-clause-of c =
    let made = whole_marked c.args.g.now c.order-n.result c.edges-ends.result.now c.order-n.ensures.is c.edges-ends.ensures.edges (marks c.args.mark.now) c.in_ok-marked_rows.field-0.items c.in_ok-marked_rows.ensures in
    subst (IsOf c.args.g.now) (sym made) (marked-of c.args.g.now (marks c.args.mark.now))

pub returns-clause-edges : goal.returns-clause-edges
returns-clause-edges c =
    let made = whole_marked c.args.g.now c.order-n.result c.edges-ends.result.now c.order-n.ensures.is c.edges-ends.ensures.edges (marks c.args.mark.now) c.in_ok-marked_rows.field-0.items c.in_ok-marked_rows.ensures in
    ap edges_of made ∙ marked-edges c.args.g.now (marks c.args.mark.now)
