use Rattle.barrier_kit.proofs.CriticalPairs.{no_sides}
use Rattle.barrier_kit.proofs.ShoreFacts.{bicritical_no_cuts, some_cut, wide_class}
use Rattle.barrier_kit.proofs.laws.wide_class_law.Goals as goal

pub returns-clause-class : goal.returns-clause-class
returns-clause-class c g is cov critical odd_cycle = wide_class g is.ends cov (no_sides g is.no_loop odd_cycle) critical is.no_loop

pub returns-clause-some : goal.returns-clause-some
returns-clause-some c g is cov critical odd_cycle = some_cut g is.ends cov (no_sides g is.no_loop odd_cycle) critical

pub returns-clause-none : goal.returns-clause-none
returns-clause-none c = bicritical_no_cuts
