use Rattle.std.proofs.Common.{arith, length, ◌<◌}
use Rattle.std.proofs.lemmas.Bool.Decides.{nat_tests}
use Rattle.std.proofs.lemmas.Grind.{common_steps}
use Rattle.line_text.proofs.LineCuts.{lines_of-first}
use Rattle.line_text.proofs.lines.split_line.Goals as goal

pub returns-clause-lines : goal.returns-clause-lines
returns-clause-lines c =
    let some : 0 < length c.args.text.now = grind (arith, nat_tests) in
    grind (arith, common_steps, lines_of-first c.args.text.now some)
