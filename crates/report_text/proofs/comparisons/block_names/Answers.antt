use Rattle.report_text.proofs.BlockNames.{names-next}
use Rattle.report_text.proofs.comparisons.block_names.Goals as goal

pub loop-i-preserved : goal.loop-i-preserved
loop-i-preserved c = names-next c.args.p.now.blocks c.loop-i.i c.name_of.result c.block.result _ _ c.block.ensures c.loop-i.invariant c.name_of.ensures c.in_ok-push.ensures.ok
