use Rattle.std.proofs.Common.{append_assoc, ◌∙◌}
use Rattle.report_text.proofs.ear_reports.line_of_steps.Goals as goal

pub returns : goal.returns
returns c = c.in_ok-line.ensures.ok ∙ simp append_assoc
