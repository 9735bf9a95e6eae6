use Rattle.theorems.proofs.ComponentsListed.{elementary_covered, whole_covered}
use Rattle.theorems.proofs.elementary.elementary_components_law.Goals as goal

pub returns : goal.returns
returns x = record { covered = elementary_covered; whole = whole_covered }
