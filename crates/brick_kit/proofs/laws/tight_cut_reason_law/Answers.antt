use Rattle.brick_kit.proofs.Bricks.{brick_or_not, no_shore, shore_pair, shore_reason}
use Rattle.brick_kit.proofs.laws.tight_cut_reason_law.Goals as goal

pub returns-clause-reason : goal.returns-clause-reason
returns-clause-reason c g x is cov tx wide = shore_reason g x is cov tx wide

pub returns-clause-pair : goal.returns-clause-pair
returns-clause-pair c g x is cov bi tx wide = shore_pair g x is cov bi tx wide

pub returns-clause-none : goal.returns-clause-none
returns-clause-none c g is cov bi none_pair x tx wide = no_shore g is cov bi none_pair x tx wide

pub returns-clause-brick : goal.returns-clause-brick
returns-clause-brick c g is cov odd_cycle = brick_or_not g is cov odd_cycle
