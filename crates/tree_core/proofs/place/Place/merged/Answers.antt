use Rattle.std.proofs.Common.{arith}
use Rattle.tree_core.proofs.CutsBelow.{merged-covers, merged-length}
use Rattle.tree_core.proofs.DerivationStands.{cut-nonempty}
use Rattle.tree_core.proofs.place.Place.merged.Goals as goal

pub merge-requires-clause-nonempty : goal.merge-requires-clause-nonempty
merge-requires-clause-nonempty c = cut-nonempty c.args.self.now.graph c.args.self.now.blocks c.args.shore c.keeps_place.ensures.partition c.requires

pub invariant_of-result : goal.invariant_of-result
invariant_of-result c = grind (arith, merged-covers)

pub returns-clause-length : goal.returns-clause-length
returns-clause-length c = grind (arith, merged-length)
