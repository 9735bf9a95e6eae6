use Rattle.std.proofs.Common.{append_assoc, ◌∙◌}
use Rattle.std.proofs.lemmas.Result.{on_ok_weaker}
use Rattle.mcg6_lines.proofs.kind_lines.push_structure.Goals as goal

pub returns : goal.returns
returns c = on_ok_weaker c.push_word-3.result (λ e. e ∙ simp (append_assoc, c.kind_word.ensures, c.yes_or_no.ensures, c.in_ok-push_word.ensures, c.in_ok-push_number.ensures, c.in_ok-push_number-2.ensures, c.in_ok-push_word-2.ensures)) c.push_word-3.ensures
