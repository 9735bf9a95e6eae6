use Rattle.move_laws.proofs.Uniqueness.{exposing_law}
use Rattle.move_laws.proofs.laws.exposing_law.Goals as goal

pub returns : goal.returns
returns c = exposing_law
