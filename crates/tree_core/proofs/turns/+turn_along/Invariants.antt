use Rattle.std.proofs.Common.{length}
use Rattle.tree_core.proofs.turns.+turn_along.Given as goal

abbrev pub decreases-turn_along : goal.decreases-turn_along
decreases-turn_along l = length l.path.now
