use Rattle.std.proofs.Common.{◌∙◌}
use Rattle.barrier_kit.proofs.CutLists.{barrier_cuts-all}
use Rattle.barrier_kit.proofs.shores.barrier_cuts_of.Goals as goal

pub returns : goal.returns
returns c = barrier_cuts-all c.args.c.now c.loop-class.cuts c.as_slice-class-items.result.now c.loop-class.class-index (c.as_slice-class-items.ensures ∙ c.in_ok-list.ensures) c.loop-class-test.false c.loop-class.invariant
