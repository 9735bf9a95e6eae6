use Rattle.theorems.proofs.EarCounts.{covered-count, met-count}
use Rattle.theorems.proofs.ears.ear_count_law.Goals as goal

pub returns : goal.returns
returns c = record { met = met-count; covered = covered-count }
