use Rattle.graph_core.proofs.BlockSets.{tight_rest}
use Rattle.graph_core.proofs.laws.complement_law.Goals as goal

pub returns : goal.returns
returns c g p x is pp t = tight_rest g is p pp x t
