use Rattle.std.proofs.Common.{arith}
use Rattle.tree_core.proofs.CutsBelow.{root-covered}
use Rattle.tree_core.proofs.place.Place.root.Goals as goal

pub invariant_of-result : goal.invariant_of-result
invariant_of-result c = grind (arith, root-covered)
