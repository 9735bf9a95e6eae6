-- Each step goes one further down the path.
use Rattle.std.proofs.Common.{length}
use Rattle.tree_check.proofs.sound_moves.+is_sound_switch.Given as goal

abbrev pub decreases-is_sound_switch : goal.decreases-is_sound_switch
decreases-is_sound_switch l = length l.path.now
