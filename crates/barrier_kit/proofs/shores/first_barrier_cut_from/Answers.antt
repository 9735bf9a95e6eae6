use Rattle.std.proofs.Common.{◌∙◌}
use Rattle.barrier_kit.proofs.FirstCuts.{next_barrier, no_first_barrier}
use Rattle.barrier_kit.proofs.shores.first_barrier_cut_from.Goals as goal

pub returns-then-not-is_empty : goal.returns-then-not-is_empty
returns-then-not-is_empty c =
    next_barrier c.args.c.now c.loop-class.cuts c.as_slice-class-items.result.now c.loop-class.class-index (c.as_slice-class-items.ensures ∙ c.requires) c.loop-class.invariant.cuts
    c.class-item.result c.add_class_cuts.new.cuts c.get.result c.loop-class-test.true c.class-item.is c.in_ok-add_class_cuts.ensures c.get.ensures

pub returns : goal.returns
returns c = no_first_barrier c.args.c.now c.loop-class.cuts c.as_slice-class-items.result.now c.loop-class.class-index (c.as_slice-class-items.ensures ∙ c.requires) c.loop-class.invariant.cuts c.loop-class-test.false c.loop-class.invariant.none
