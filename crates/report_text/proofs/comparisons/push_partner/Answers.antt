use Rattle.std.proofs.Common.{append_assoc, ◌∙◌}
use Rattle.report_text.proofs.comparisons.push_partner.Goals as goal

pub returns : goal.returns
returns c = c.in_ok-write.ensures.bytes ∙ simp append_assoc
