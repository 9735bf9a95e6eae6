use Rattle.definition_laws.proofs.FirstPairs.{cut-first, equivalent-first}
use Rattle.definition_laws.proofs.covered.first_pair_law.Goals as goal

pub returns-clause-equivalent : goal.returns-clause-equivalent
returns-clause-equivalent c g k h = equivalent-first g k h

pub returns-clause-separates : goal.returns-clause-separates
returns-clause-separates c g k h = cut-first g k h
