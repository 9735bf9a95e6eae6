use Rattle.barrier_kit.proofs.Common.{bicritical, four_vertices, no_sides}
use Rattle.separation_kit.proofs.CutPairs.{no_cut_pair}
use Rattle.separation_kit.proofs.laws.brick_conditions_law.Goals as goal

pub returns-clause-four : goal.returns-clause-four
returns-clause-four c g is cov odd_cycle = four_vertices g is.ends cov (no_sides g is.no_loop odd_cycle)

pub returns-clause-bicritical : goal.returns-clause-bicritical
returns-clause-bicritical c g is cov odd_cycle brick = bicritical g is.ends cov (no_sides g is.no_loop odd_cycle) brick

pub returns-clause-connected : goal.returns-clause-connected
returns-clause-connected c g is cov odd_cycle brick u v p =
    no_cut_pair g is.ends (bicritical g is.ends cov (no_sides g is.no_loop odd_cycle) brick) brick u v p.first p.second p
