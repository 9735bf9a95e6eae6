use Rattle.std.proofs.Common.{add-one}
use Rattle.report_text.proofs.WrittenLines.{block-written}
use Rattle.report_text.proofs.derivations.push_blocks.Goals as goal

pub loop-i-preserved : goal.loop-i-preserved
loop-i-preserved c = rw add-one (block-written c.args.p.now.blocks c.loop-i.i c.block.result _ _ _ c.block.ensures c.loop-i.invariant c.in_ok-push_set_line.ensures)
