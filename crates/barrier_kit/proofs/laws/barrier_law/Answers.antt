use Rattle.barrier_kit.proofs.BarrierCuts.{part_odd, barrier_parts, part_tight, none_inside}
use Rattle.barrier_kit.proofs.Matched.{cuts_met}
use Rattle.barrier_kit.proofs.laws.barrier_law.Goals as goal

pub returns : goal.returns
returns c = record {
  odd = λ g s a u is cov. part_odd g s a u is (cuts_met g is cov);
  many = λ g s a is cov. barrier_parts g s a is (cuts_met g is cov);
  tight = part_tight;
  independent = λ g s e is cov bar. none_inside g is cov s bar e;
}
