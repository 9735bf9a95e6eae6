use Rattle.std.proofs.Common.{arith}
use Rattle.move_laws.proofs.Uniqueness.{rotate_derives_law}
use Rattle.tree_core.proofs.Common.{fits-derivation}
use Rattle.tree_check.proofs.MovesFit.{move-fits}
use Rattle.tree_check.proofs.sound_moves.is_sound.Goals as goal

pub is_sound_switch-requires-clause-fits : goal.is_sound_switch-requires-clause-fits
is_sound_switch-requires-clause-fits c = grind (arith, move-fits c.args.c.now.order, fits-derivation c.args.c.now)

pub returns-in-Rotate : goal.returns-in-Rotate
returns-in-Rotate c holds = grind (arith, rotate_derives_law c.args.c.now c.in-Rotate.path)
