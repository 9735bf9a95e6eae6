use Rattle.barrier_kit.proofs.ClassLaw.{equivalent_self, equivalent_back, equivalent_on, equivalent_or_not}
use Rattle.barrier_kit.proofs.laws.equivalence_law.Goals as goal

pub returns : goal.returns
returns c = record {
  reflexive = equivalent_self;
  symmetric = equivalent_back;
  transitive = equivalent_on;
  decided = equivalent_or_not;
}
