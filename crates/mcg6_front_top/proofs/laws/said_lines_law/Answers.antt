use Rattle.mcg6_front_top.proofs.SaidWhole.{whole-printed}
use Rattle.mcg6_front_top.proofs.laws.said_lines_law.Goals as goal

pub returns : goal.returns
returns c = whole-printed
