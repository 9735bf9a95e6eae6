use Rattle.contraction.proofs.LiftedMatchings.{lifted-perfect}
use Rattle.contraction.proofs.ProjectedMatchings.{lifted-cut}
use Rattle.contraction.proofs.laws.lift_law.Goals as goal

pub returns-clause-perfect : goal.returns-clause-perfect
returns-clause-perfect c g p m is pp perfect = lifted-perfect g p is pp m perfect

pub returns-clause-cut : goal.returns-clause-cut
returns-clause-cut c g p m y is pp perfect = lifted-cut g p is pp m perfect y
