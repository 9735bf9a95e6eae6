use Rattle.std.proofs.Common.{append_assoc, ◌∙◌}
use Rattle.report_text.proofs.scripts.line_of_script.Goals as goal

pub returns : goal.returns
returns c = c.in_ok-line.ensures.ok ∙ simp append_assoc
