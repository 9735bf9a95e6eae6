use Rattle.separation_kit.proofs.SeparationFacts.{cut_pair-none, equivalent-none}
use Rattle.separation_kit.proofs.laws.missing_pairs_law.Goals as goal

pub returns-clause-bicritical : goal.returns-clause-bicritical
returns-clause-bicritical c = equivalent-none

pub returns-clause-separated : goal.returns-clause-separated
returns-clause-separated c = cut_pair-none
