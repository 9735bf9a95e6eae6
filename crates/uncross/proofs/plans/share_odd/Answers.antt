use Rattle.graph_core.proofs.from_counting.Common.{ap, ◌∙◌, fun_ext, odd_remainder, is_odd}
use Rattle.graph_core.proofs.Common.{block_count}
use Rattle.uncross.proofs.plans.share_odd.Goals as goal

pub returns : goal.returns
returns c = odd_remainder c.blocks_in.result ∙ ap is_odd (c.blocks_in.ensures ∙ ap (block_count c.args.p.now.blocks) (fun_ext c.meet.ensures))
