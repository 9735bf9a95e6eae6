use Rattle.graph_core.proofs.Common.{is_equivalent_found, is_equivalent_says}
use Rattle.definition_laws.proofs.Covering.{classes-cover, classes-once}
use Rattle.definition_laws.proofs.Leaders.{classes-are}
use Rattle.definition_laws.proofs.ListOrders.{classes-order}
use Rattle.definition_laws.proofs.covered.canonical_partition_law.Goals as goal

pub returns-clause-test : goal.returns-clause-test
returns-clause-test c g a b = (is_equivalent_says g a b, is_equivalent_found g a b)

pub returns-clause-lists : goal.returns-clause-lists
returns-clause-lists c g = classes-are g

pub returns-clause-cover : goal.returns-clause-cover
returns-clause-cover c g a is cov w = classes-cover g is cov a w

pub returns-clause-order : goal.returns-clause-order
returns-clause-order c g = classes-order g

pub returns-clause-once : goal.returns-clause-once
returns-clause-once c g i j a is cov wi wj hi hj = classes-once g is cov i j a wi wj hi hj
