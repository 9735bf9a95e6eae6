use Rattle.barrier_kit.proofs.ClassLaw.{class_exists, class_barrier, class_holds_barrier}
use Rattle.barrier_kit.proofs.laws.class_law.Goals as goal

pub returns-clause-found : goal.returns-clause-found
returns-clause-found c g b is cov wb = class_exists g is cov b wb

pub returns-clause-barrier : goal.returns-clause-barrier
returns-clause-barrier c = class_barrier

pub returns-clause-greatest : goal.returns-clause-greatest
returns-clause-greatest c = class_holds_barrier
