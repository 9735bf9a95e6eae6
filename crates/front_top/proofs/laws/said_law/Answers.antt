use Rattle.front_top.proofs.SaidWhole.{whole-passed}
use Rattle.front_top.proofs.laws.said_law.Goals as goal

pub returns : goal.returns
returns c = whole-passed
