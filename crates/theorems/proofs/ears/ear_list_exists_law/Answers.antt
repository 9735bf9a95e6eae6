use Rattle.ear_text.proofs.from_ear_core.Stepping.{covered-edge}
use Rattle.theorems.proofs.EarSteps.{ear-list-exists}
use Rattle.theorems.proofs.ears.ear_list_exists_law.Goals as goal

pub returns : goal.returns
returns c = record { edge = covered-edge; list = ear-list-exists }
