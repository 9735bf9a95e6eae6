use Rattle.graph_core.proofs.from_counting.Common.{◌≡◌, ap, ◌∙◌, arith, fun_ext, mem}
use Rattle.match_core.specs.Common.{edges_of}
use Rattle.match_search.specs.Common.{marks}
use Rattle.match_search.proofs.WholeGraphs.{ends_rows, limits_row}
use Rattle.match_core.proofs.partner_table.enlarged.Goals as goal

pub marks-requires-clause-within : goal.marks-requires-clause-within
marks-requires-clause-within c = λ k d l. let edge = ((c.in_ok-cleared.ensures.of c.args.g.now c.requires).rows k d l).edge in let size_is = c.size.ensures.is in (edge.0, omega arith)

pub best_from-requires-clause-row : goal.best_from-requires-clause-row
best_from-requires-clause-row c = limits_row c.args.g.now c.order-n.result c.edges-ends.result.now c.order-n.ensures.is c.edges-ends.ensures.edges c.edges-ends.ensures.limits

pub best_from-requires-clause-neighbours : goal.best_from-requires-clause-neighbours
best_from-requires-clause-neighbours c = ends_rows c.args.g.now c.order-n.result c.edges-ends.result.now c.order-n.ensures.is c.edges-ends.ensures.edges c.rows.result.now c.rows.ensures

pub best_from-requires-clause-matching : goal.best_from-requires-clause-matching
best_from-requires-clause-matching c =
    let marked : marks c.deref.result.now ≡ mem (edges_of c.in_ok-cleared.field-0) = ap marks c.deref.ensures.value ∙ fun_ext c.in_ok-mark.ensures.each in
    grind arith

pub returns : goal.returns
returns c = grind arith
