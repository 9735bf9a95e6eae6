use Rattle.std.proofs.Common.{arith, ◌+◌, ◌∙◌, sym, length, rules, option_map}
use Rattle.line_text.specs.Common.{lines_of, words_of, state_after, reading_of}
use Rattle.line_text.proofs.LineByLine.{reading_from-taken, reading_from-broken, reading_from-value, reading_from-ended, Fails-placed}
use Rattle.line_text.proofs.LineCuts.{lines_of-nil}
use Rattle.line_text.proofs.reading.read_lines.Goals as goal

pub lines-preserved : goal.lines-preserved
lines-preserved g c = grind (arith, reading_from-taken)

pub returns-in-Err : goal.returns-in-Err
returns-in-Err g c =
    let format = g.F.LineFormat in
    let rules = format.rules c.args.format.now in
    let from = option_map format.state c.lines.body in
    let cut = c.in-Some.ensures.lines in
    rw c.place.ensures (Fails-placed (c.lines.line + 1) c.in-Err.refusal (state_after rules from (words_of c.in-Some.first.now)) (reading_of rules c.args.text.now) c.in-Err.ensures (λ kind breaks. sym c.lines.invariant.outcome ∙ reading_from-broken rules from (c.lines.line + 1) (length (lines_of c.args.text.now)) _ _ _ cut kind breaks))

pub returns-in-Ok-read_end : goal.returns-in-Ok-read_end
returns-in-Ok-read_end g c = grind (arith, lines_of-nil, reading_from-value)

pub returns-in-Err-read_end : goal.returns-in-Err-read_end
returns-in-Err-read_end g c = grind (arith, lines_of-nil, reading_from-ended)
