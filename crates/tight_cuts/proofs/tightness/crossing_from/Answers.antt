use Rattle.std.proofs.Common.{◌∙◌}
use Rattle.tight_cuts.proofs.tightness.crossing_from.Goals as goal

pub returns-in-Some-clause-some : goal.returns-in-Some-clause-some
returns-in-Some-clause-some c m q = c.in_ok-matching.ensures.some m (c.in-Some.is ∙ q)
