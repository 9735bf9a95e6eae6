use Rattle.graph_core.proofs.Common.{is_allowed_found, is_allowed_says, is_tight_found, is_tight_says}
use Rattle.definition_laws.proofs.matchings.tight_law.Goals as goal

pub returns-clause-allowed : goal.returns-clause-allowed
returns-clause-allowed c g e w = (is_allowed_says g e, is_allowed_found g e w)

pub returns-clause-tight : goal.returns-clause-tight
returns-clause-tight c g x = (is_tight_says g x, is_tight_found g x)
