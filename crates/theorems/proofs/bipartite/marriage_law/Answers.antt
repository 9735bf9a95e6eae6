use Rattle.theorems.proofs.Marriages.{marriage}
use Rattle.theorems.proofs.bipartite.marriage_law.Goals as goal

pub returns : goal.returns
returns c = marriage
