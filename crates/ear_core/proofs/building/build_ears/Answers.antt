use Rattle.graph_core.proofs.from_counting.Common.{subst, IfOk, AllByRecursion}
use Rattle.graph_core.proofs.Common.{Graph, IsBipartite}
use Rattle.ear_core.specs.Common.{IsSingle, ears_of}
use Rattle.ear_core.proofs.building.build_ears.Goals as goal

pub returns-clause-single : goal.returns-clause-single
returns-clause-single c = subst (λ (g : Graph). IfOk c.build_ears_of-2.result (λ list. IsBipartite g → AllByRecursion IsSingle (ears_of list).steps)) c.in_ok-known.ensures c.build_ears_of-2.ensures.single
