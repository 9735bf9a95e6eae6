use Rattle.std.proofs.Common.{length}
use Rattle.ear_core.proofs.choosing.+first_alone.Given as goal

abbrev pub decreases-first_alone : goal.decreases-first_alone
decreases-first_alone l = length l.ears.now
