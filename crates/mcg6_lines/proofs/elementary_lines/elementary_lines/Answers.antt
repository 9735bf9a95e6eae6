use Rattle.allowed_edges.proofs.from_counting.Common.{◌∙◌, arith, sym, IfOk-weaker, none-some}
use Rattle.mcg6_lines.proofs.Components.{matched_lines, unmatched_lines}
use Rattle.mcg6_lines.proofs.elementary_lines.elementary_lines.Goals as goal

pub returns-in-Some : goal.returns-in-Some
returns-in-Some c =
    IfOk-weaker c.matched_lines.result _ _
    (λ lines is. is ∙ matched_lines c.args.number c.args.g.now (λ no. none-some c.in-Some.table (sym (c.in_ok-table.ensures.perfect.1 no) ∙ c.in-Some.is))) c.matched_lines.ensures

pub returns : goal.returns
returns c = grind (arith, unmatched_lines)
