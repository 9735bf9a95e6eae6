use Rattle.std.proofs.Common.{length}
use Rattle.ear_core.proofs.stages.+least_refused.Given as goal

abbrev pub decreases-least_refused : goal.decreases-least_refused
decreases-least_refused l = length l.edges.now
