use Rattle.theorems.proofs.ConformalEars.{conformal_goes_on, goes_on_conformal}
use Rattle.theorems.proofs.DisjointEars.{list_disjoint, needed_disjoint}
use Rattle.theorems.proofs.ears.ear_decomposition_law.Goals as goal

pub returns : goal.returns
returns x = record {
  goes_on = λ g f is cov stage rest. conformal_goes_on g is cov f stage rest;
  conformal = goes_on_conformal;
  disjoint = λ g f s is stage step next needed. needed_disjoint g is f s stage step next needed;
  lists = list_disjoint;
}
