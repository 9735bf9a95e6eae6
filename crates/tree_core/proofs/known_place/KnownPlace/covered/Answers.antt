use Rattle.std.proofs.Common.{arith}
use Rattle.tree_core.proofs.SeenGraphs.{seen-blocks, seen-vertices}
use Rattle.tree_core.proofs.known_place.KnownPlace.covered.Goals as goal

pub returns-in-Some : goal.returns-in-Some
returns-in-Some c = grind (arith, seen-blocks)

pub returns-in-None : goal.returns-in-None
returns-in-None c = grind (arith, seen-vertices)
