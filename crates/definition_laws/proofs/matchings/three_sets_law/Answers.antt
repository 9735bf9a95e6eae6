use Rattle.definition_laws.proofs.ThreeSets.{some_part}
use Rattle.definition_laws.proofs.matchings.three_sets_law.Goals as goal

pub returns-clause-some : goal.returns-clause-some
returns-clause-some c g v w = some_part g v w
