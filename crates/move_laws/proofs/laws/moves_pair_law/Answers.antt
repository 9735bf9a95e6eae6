use Rattle.move_laws.proofs.Uniqueness.{moves_pair_law}
use Rattle.move_laws.proofs.laws.moves_pair_law.Goals as goal

pub returns : goal.returns
returns c = moves_pair_law
