use Rattle.std.proofs.Common.{arith}
use Rattle.tree_core.proofs.Common.{shape_of}
use Rattle.tree_check.proofs.ReplaySteps.{reached-derivation, refused_move-next, stuck-next, turns-next}
use Rattle.tree_check.proofs.replaying.replay_covered.Goals as goal

pub step-requires : goal.step-requires
step-requires c = grind (arith, reached-derivation)

pub returns-in-Stuck : goal.returns-in-Stuck
returns-in-Stuck c = grind (arith, stuck-next)

pub returns-in-Refused : goal.returns-in-Refused
returns-in-Refused c = grind (arith, refused_move-next c.args.c.now (shape_of c.args.tree) (shape_of c.loop-i.reached))

pub loop-i-preserved : goal.loop-i-preserved
loop-i-preserved c = grind (arith, turns-next)
