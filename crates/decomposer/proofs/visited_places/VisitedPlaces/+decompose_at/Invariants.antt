-- Below a cut there are fewer blocks.
use Rattle.std.proofs.Common.{length}
use Rattle.decomposer.proofs.visited_places.VisitedPlaces.+decompose_at.Given as goal

abbrev pub decreases-decompose_at : goal.decreases-decompose_at
decreases-decompose_at g l = length l.place.blocks
