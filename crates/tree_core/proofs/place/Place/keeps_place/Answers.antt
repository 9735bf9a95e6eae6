use Rattle.std.proofs.Common.{arith}
use Rattle.contraction.proofs.BlockLists.{length-partition}
use Rattle.tree_core.proofs.place.Place.keeps_place.Goals as goal

pub returns-clause-few : goal.returns-clause-few
returns-clause-few c = grind (arith, length-partition)
