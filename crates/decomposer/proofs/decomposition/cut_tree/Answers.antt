use Rattle.std.proofs.Common.{ap₂}
use Rattle.tree_core.proofs.Common.{cut, shape_of}
use Rattle.decomposer.proofs.decomposition.cut_tree.Goals as goal

pub returns : goal.returns
returns c = ap₂ (λ kept merged. cut c.args.shore (shape_of kept) (shape_of merged)) c.in_ok-new.ensures.ok c.in_ok-new-2.ensures.ok
