use Rattle.two_ears.proofs.TwoEars.{two_ears}
use Rattle.two_ears.proofs.laws.two_ears_law.Goals as goal

pub returns : goal.returns
returns c = two_ears
