use Rattle.graph_core.proofs.Common.{reason-uncovered}
use Rattle.definition_laws.proofs.Reasons.{covered_or_reason, reason-one}
use Rattle.definition_laws.proofs.covered.reason_law.Goals as goal

pub returns-clause-uncovered : goal.returns-clause-uncovered
returns-clause-uncovered c g r is why cov = reason-uncovered g r is why cov

pub returns-clause-one : goal.returns-clause-one
returns-clause-one c g q r a b = reason-one g q r a b

pub returns-clause-some : goal.returns-clause-some
returns-clause-some c g is = covered_or_reason g is
