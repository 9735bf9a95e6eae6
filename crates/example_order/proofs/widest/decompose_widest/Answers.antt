use Rattle.tree_core.proofs.Common.{shape_of, fits-derivation}
use Rattle.tree_check.proofs.ThreeAnswers.{accepted-exactly}
use Rattle.example_order.proofs.widest.decompose_widest.Goals as goal

pub check-requires : goal.check-requires
check-requires c = fits-derivation c.in-Ok.named.graph (shape_of c.in_ok-tree.tree) c.in_ok-tree.ensures.derivation

pub returns-clause-accepted : goal.returns-clause-accepted
returns-clause-accepted c =
    (accepted-exactly c.in-Ok.named.graph (shape_of c.in_ok-tree.tree) c.in-Ok-check.judgement c.keeps_limits.ensures.multigraph c.in-Ok-check.ensures).1
    c.in_ok-tree.ensures.derivation
