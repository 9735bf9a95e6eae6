use Rattle.std.proofs.Common.{append_assoc, arith}
use Rattle.report_text.proofs.ear_judgements.push_refused.Goals as goal

pub returns : goal.returns
returns c = grind (arith, append_assoc)
