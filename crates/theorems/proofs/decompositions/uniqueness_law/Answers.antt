use Rattle.theorems.proofs.SameLeaves.{isomorphic_leaves, paired_leaves, same_braces, same_numbers, same_orders, same_tests_counted}
use Rattle.theorems.proofs.decompositions.uniqueness_law.Goals as goal

pub returns : goal.returns
returns x = record {
  leaves = λ g s t is ds dt. paired_leaves g s t is ds dt;
  quotients = λ g s t is ds dt. isomorphic_leaves g s t is ds dt;
  numbers = λ g s t is ds dt. same_numbers g s t is ds dt;
  tests = λ g s t test is ds dt. same_tests_counted g s t is ds dt test;
  orders = λ g s t k is ds dt. same_orders g s t is ds dt k;
  braces = λ g s t k is ds dt. same_braces g s t is ds dt k;
}
