-- Below a cut there are fewer blocks.
use Rattle.std.proofs.Common.{◌+◌, ◌*◌, length}
use Rattle.decomposer.proofs.decomposition.+decomposing.Given as goal

abbrev pub decreases-decompose_at : goal.decreases-decompose_at
decreases-decompose_at g l = 2 * length l.place.blocks + 1

abbrev pub decreases-decompose_cut : goal.decreases-decompose_cut
decreases-decompose_cut g l = 2 * length l.place.now.blocks
