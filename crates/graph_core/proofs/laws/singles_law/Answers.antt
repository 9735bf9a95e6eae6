use Rattle.vset_core.proofs.from_counting.Common.{subst, sym, none}
use Rattle.graph_core.proofs.SingleBlocks.{contracted-singles, singles-tight, tight-singles}
use Rattle.graph_core.proofs.Singles.{singles-partition}
use Rattle.graph_core.specs.Common.{IsPerfect}
use Rattle.graph_core.proofs.laws.singles_law.Goals as goal

pub returns-clause-partition : goal.returns-clause-partition
returns-clause-partition c n = singles-partition n

pub returns-clause-same : goal.returns-clause-same
returns-clause-same c g is = contracted-singles g is

pub returns-clause-perfect : goal.returns-clause-perfect
returns-clause-perfect c g m is = (λ perfect. subst (λ h. IsPerfect h none m) (contracted-singles g is) perfect, λ perfect. subst (λ h. IsPerfect h none m) (sym (contracted-singles g is)) perfect)

pub returns-clause-tight : goal.returns-clause-tight
returns-clause-tight c g x is = (tight-singles g x is, singles-tight g x is)
