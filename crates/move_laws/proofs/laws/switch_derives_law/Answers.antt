use Rattle.move_laws.proofs.MoveParts.{switch_derives_law}
use Rattle.move_laws.proofs.laws.switch_derives_law.Goals as goal

pub returns : goal.returns
returns c = switch_derives_law
