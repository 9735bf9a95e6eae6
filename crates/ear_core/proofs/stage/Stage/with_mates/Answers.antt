use Rattle.std.proofs.Common.{rules}
use Rattle.ear_core.proofs.StageClasses.{rows-first}
use Rattle.ear_core.proofs.stage.Stage.with_mates.Goals as goal

pub invariant_of-result : goal.invariant_of-result
invariant_of-result c = rows-first c.args.asked c.args.mate.items c.args.covered c.empty-known.result c.in_ok-rows.rows.items c.requires.matched c.requires.classes (search rules) (search rules)
