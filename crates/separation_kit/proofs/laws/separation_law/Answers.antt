use Rattle.separation_kit.proofs.Separations.{separation_even, separation_nontrivial, separation_tight}
use Rattle.separation_kit.proofs.laws.separation_law.Goals as goal

pub returns-clause-even : goal.returns-clause-even
returns-clause-even c g u v a is wu wv d m wa out = separation_even g is u v wu wv d m.0 m.1 a wa out

pub returns-clause-tight : goal.returns-clause-tight
returns-clause-tight c g u v a is wu wv d m wa out = separation_tight g is u v wu wv d m.0 m.1 a wa out

pub returns-clause-nontrivial : goal.returns-clause-nontrivial
returns-clause-nontrivial c g u v a is p m wa out = separation_nontrivial g is u v p.first p.second p.different m.0 m.1 a wa out p
