use Rattle.std.proofs.Common.{length}
use Rattle.ear_core.proofs.choosing.+double_step.Given as goal

abbrev pub decreases-double_step : goal.decreases-double_step
decreases-double_step l = length l.ears.now
