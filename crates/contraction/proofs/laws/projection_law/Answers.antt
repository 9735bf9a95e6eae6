use Rattle.contraction.proofs.ProjectedMatchings.{projected-cut, projected-perfect}
use Rattle.contraction.proofs.laws.projection_law.Goals as goal

pub returns-clause-perfect : goal.returns-clause-perfect
returns-clause-perfect c g p m is pp perfect = projected-perfect g p is pp m perfect

pub returns-clause-cut : goal.returns-clause-cut
returns-clause-cut c g p m y is pp perfect = projected-cut g p is pp m perfect y
