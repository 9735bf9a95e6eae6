use Rattle.allowed_edges.proofs.from_counting.Common.{sym, ap, ◌∙◌, is_odd, mem, is_odd_remainder}
use Rattle.graph_core.proofs.Common.{joined}
use Rattle.plain_graph.proofs.Reaching.{length-part}
use Rattle.plain_graph.proofs.parts.is_in_odd_part.Goals as goal

pub returns : goal.returns
returns c =
    let n = c.args.graph.now.order in
    sym (is_odd_remainder c.len.result)
    ∙ ap is_odd (c.len.ensures ∙ length-part n _ c.joined_to-part.result (joined c.args.graph.now (mem c.args.removed) c.args.u) c.rises.ensures c.joined_to-part.ensures.vertices c.joined_to-part.ensures.joined)
