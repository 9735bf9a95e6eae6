use Rattle.std.proofs.Common.{arith}
use Rattle.tight_cuts.proofs.BipartiteShores.{nothing_at}
use Rattle.tight_cuts.proofs.FirstPairs.{no_first}
use Rattle.tight_cuts.proofs.bipartite.first_shore.Goals as goal

pub returns : goal.returns
returns c = grind (arith, nothing_at, no_first)
