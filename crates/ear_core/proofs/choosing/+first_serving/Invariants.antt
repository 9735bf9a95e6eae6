use Rattle.std.proofs.Common.{length}
use Rattle.ear_core.proofs.choosing.+first_serving.Given as goal

abbrev pub decreases-first_serving : goal.decreases-first_serving
decreases-first_serving l = length l.ears.now
