use Rattle.separation_kit.proofs.SeparationFacts.{no_pair_no_cuts, pair_even, pair_some_cut, separation_cuts-canonical, separation_shores-tight}
use Rattle.separation_kit.proofs.laws.separation_cuts_law.Goals as goal

pub returns-clause-tight : goal.returns-clause-tight
returns-clause-tight c = separation_shores-tight

pub returns-clause-canonical : goal.returns-clause-canonical
returns-clause-canonical c = separation_cuts-canonical

pub returns-clause-even : goal.returns-clause-even
returns-clause-even c g u v a is bi p wa out = pair_even g is u v a bi p wa out

pub returns-clause-some : goal.returns-clause-some
returns-clause-some c g u v is bi four p = pair_some_cut g is bi four u v p

pub returns-clause-none : goal.returns-clause-none
returns-clause-none c = no_pair_no_cuts
