use Rattle.theorems.proofs.FarkasLemma.{farkas, not_both}
use Rattle.theorems.proofs.inequalities.farkas_law.Goals as goal

pub returns-clause-either : goal.returns-clause-either
returns-clause-either c = farkas

pub returns-clause-not_both : goal.returns-clause-not_both
returns-clause-not_both c = not_both
