use Rattle.move_laws.proofs.Uniqueness.{pairing_law, turning_law}
use Rattle.move_laws.proofs.laws.turning_law.Goals as goal

pub returns : goal.returns
returns c = record { turns = turning_law; pairs = pairing_law }
