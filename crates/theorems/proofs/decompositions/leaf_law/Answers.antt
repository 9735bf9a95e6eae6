use Rattle.theorems.proofs.Quotients.{leaf-quotient, quotient-leaf}
use Rattle.theorems.proofs.decompositions.leaf_law.Goals as goal

pub returns : goal.returns
returns c g p is pp = (leaf-quotient g p is pp, quotient-leaf g p is pp)
