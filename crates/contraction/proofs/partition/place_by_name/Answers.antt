use Rattle.graph_core.proofs.from_counting.Common.{refl, ◌∙◌, nat_lt, length, last_of}
use Rattle.contraction.proofs.BlockLists.{position-length}
use Rattle.contraction.proofs.partition.place_by_name.Goals as goal

pub returns : goal.returns
returns c = c.unwrap_or.ensures ∙ position-length (λ b. nat_lt c.args.name (last_of b)) c.args.blocks.now c.first_above.result (length c.args.blocks.now) c.first_above.ensures refl
