use Rattle.barrier_kit.proofs.Common.{barrier_parts, equivalent_back, equivalent_over, equivalent_self, part_odd}
use Rattle.theorems.proofs.CanonicalPartition.{allowed_apart, bicritical_single, class_critical, class_maximal, elementary, maximal_class, one_class}
use Rattle.theorems.proofs.ElementaryBarriers.{elementary_cut, elementary_perfect}
use Rattle.theorems.proofs.MaximalBarriers.{maximal_critical}
use Rattle.theorems.proofs.barriers.kotzig_lovasz_law.Goals as goal

pub returns : goal.returns
returns x = record {
  elementary = elementary;
  equivalence = λ g a b c is el wa wb wc. (equivalent_self g a, equivalent_back g a b, equivalent_over g a b c is (elementary_cut g is el) (elementary_perfect g is el) wa wb wc);
  classes = λ g s is el. ((λ a. class_maximal g is el a.0 s a.1 a.2), maximal_class g is el s);
  one = λ g s a is el. one_class g is el s a;
  components = λ g s a u is el bar wa sa wu su. (part_odd g s a u is (elementary_cut g is el) bar wa sa wu su, barrier_parts g s a is (elementary_cut g is el) bar wa sa);
  critical = λ g a u s is el. class_critical g is el a u s;
  maximal = maximal_critical;
  allowed = allowed_apart;
  bicritical = bicritical_single;
}
