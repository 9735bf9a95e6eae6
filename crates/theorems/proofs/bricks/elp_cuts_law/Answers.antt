use Rattle.barrier_kit.proofs.Common.{part_nontrivial, part_tight}
use Rattle.theorems.proofs.ElpCuts.{by_barrier, by_parity, union_cut}
use Rattle.theorems.proofs.bricks.elp_cuts_law.Goals as goal

pub returns-clause-barrier : goal.returns-clause-barrier
returns-clause-barrier c g s a u is cov bar wa sa wu su = (part_tight g s a u is cov bar wa sa wu su, part_nontrivial g s a u is cov bar wa sa wu su)

pub returns-clause-pair : goal.returns-clause-pair
returns-clause-pair c g u v is cov pair = by_parity g u v is cov pair

pub returns-clause-either : goal.returns-clause-either
returns-clause-either c g u v is cov pair = by_barrier g u v is cov pair

pub returns-clause-separation : goal.returns-clause-separation
returns-clause-separation c g u v m is pair n some more mu mv closed = union_cut g u v is pair n.0 n.1 m mu mv some more closed
