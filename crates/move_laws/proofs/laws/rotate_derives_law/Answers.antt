use Rattle.move_laws.proofs.Uniqueness.{rotate_derives_law}
use Rattle.move_laws.proofs.laws.rotate_derives_law.Goals as goal

pub returns : goal.returns
returns c = rotate_derives_law
