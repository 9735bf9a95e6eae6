use Rattle.std.proofs.Common.{append_assoc, arith}
use Rattle.report_text.specs.Common.{derivation_text}
use Rattle.report_text.proofs.derivations.derivation_at.Goals as goal

pub returns : goal.returns
unfolding derivation_text
returns c = λ g ps are. grind (arith, append_assoc, c.in_ok-comments.ensures g ps are)
