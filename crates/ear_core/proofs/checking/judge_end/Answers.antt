use Rattle.std.proofs.Common.{refl}
use Rattle.ear_core.proofs.checking.judge_end.Goals as goal

pub returns : goal.returns
returns c = (refl, (c.in-Some.edge, c.in-Some.ensures.some, refl))
