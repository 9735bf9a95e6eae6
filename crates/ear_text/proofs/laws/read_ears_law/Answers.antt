use Rattle.ear_text.proofs.EarsRead.{list-read}
use Rattle.ear_text.proofs.laws.read_ears_law.Goals as goal

pub returns : goal.returns
returns c = record { fits = λ n m text list stands. (list-read n m text list stands).0; filled = λ n m text list stands. (list-read n m text list stands).1 }
