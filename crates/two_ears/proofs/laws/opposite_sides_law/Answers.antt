use Rattle.two_ears.proofs.OppositeSides.{opposite}
use Rattle.two_ears.proofs.laws.opposite_sides_law.Goals as goal

pub returns : goal.returns
returns c = opposite
