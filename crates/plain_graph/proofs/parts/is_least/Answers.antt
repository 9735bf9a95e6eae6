use Rattle.allowed_edges.proofs.from_counting.Common.{◌==◌, sym, ap, ◌∙◌, mem}
use Rattle.plain_graph.proofs.Reaching.{least-first}
use Rattle.plain_graph.proofs.parts.is_least.Goals as goal

pub returns : goal.returns
returns c =
    ap (λ v. v == c.args.u) c.unwrap_or.ensures
    ∙ least-first c.args.graph.now (mem c.args.removed) c.args.u c.joined_to.result c.first.result c.requires (sym c.if-contains.ensures)
    c.joined_to.ensures.joined c.joined_to.ensures.vertices c.first.ensures.some c.first.ensures.none
