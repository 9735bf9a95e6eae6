use Rattle.graph_core.proofs.SingleBlocks.{edges-in-cut-at}
use Rattle.graph_core.proofs.laws.cut_at_law.Goals as goal

pub returns : goal.returns
returns c g p x m is pp union = edges-in-cut-at g p x is pp union m
