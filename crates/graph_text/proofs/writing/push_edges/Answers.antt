use Rattle.std.proofs.Common.{◌++◌, [], ◌∷◌, ap, string_bytes, arith, ◌∙◌}
use Rattle.graph_core.specs.from_line_text.Common.{written}
use Rattle.graph_text.specs.Common.{edge_words}
use Rattle.graph_text.proofs.TextSoFar.{ends-next, lines-more}
use Rattle.graph_text.proofs.writing.push_edges.Goals as goal

pub loop-i-preserved : goal.loop-i-preserved
loop-i-preserved c =
    let all = c.size-size.ensures.is in
    let test = c.loop-i-test.true in
    let ends = ends-next c.args.g.now c.loop-i.i c.ends.result.a c.ends.result.b c.ends.ensures.first c.ends.ensures.second in
    lines-more edge_words (string_bytes c.args.text.now) c.args.g.now.ends c.loop-i.i (0, 0) (string_bytes c.loop-i.text) (string_bytes c.push_edge.new.text) (omega arith) c.loop-i.invariant
    (c.in_ok-push_edge.ensures ∙ ap (λ pair. string_bytes c.loop-i.text ++ written (edge_words pair ∷ [])) ends)
