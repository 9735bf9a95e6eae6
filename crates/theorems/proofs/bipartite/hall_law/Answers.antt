use Rattle.theorems.proofs.HallMatchings.{halls_theorem}
use Rattle.theorems.proofs.bipartite.hall_law.Goals as goal

pub returns : goal.returns
returns c = halls_theorem
