use Rattle.std.proofs.Common.{arith}
use Rattle.std.proofs.lemmas.Bool.Decides.{nat_tests}
use Rattle.line_text.proofs.Forms.{begin_with-zip, begin_with-short}
use Rattle.line_text.proofs.words.start_with.Goals as goal

pub returns-then-keywords-words : goal.returns-then-keywords-words
returns-then-keywords-words c = grind (arith, begin_with-zip c.args.words.now c.args.keywords.now c.if-keywords-words.true)

pub returns-else-keywords-words : goal.returns-else-keywords-words
returns-else-keywords-words c = grind (arith, begin_with-short c.args.words.now c.args.keywords.now c.if-keywords-words.false, nat_tests)
