use Rattle.std.proofs.Common.{◌++◌, [], ◌∷◌, ap, string_bytes, arith, ◌∙◌}
use Rattle.graph_core.specs.from_line_text.Common.{written}
use Rattle.graph_text.specs.Common.{name_words}
use Rattle.graph_text.proofs.TextSoFar.{lines-more}
use Rattle.graph_text.proofs.writing.push_names.Goals as goal

pub loop-k-preserved : goal.loop-k-preserved
loop-k-preserved c =
    let all = c.len-count.ensures in
    let test = c.loop-k-test.true in
    lines-more name_words (string_bytes c.args.text.now) c.args.names.now c.loop-k.k [] (string_bytes c.loop-k.text) (string_bytes c.push_name.new.text) (omega arith) c.loop-k.invariant
    (c.in_ok-push_name.ensures ∙ ap (λ name. string_bytes c.loop-k.text ++ written (name_words name ∷ [])) c.get.ensures)
