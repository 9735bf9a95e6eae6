use Rattle.std.proofs.Common.{◌≡◌, arith}
use Rattle.tree_core.specs.Common.{kept_at}
use Rattle.tree_core.proofs.CutsBelow.{kept-covers, kept-length}
use Rattle.tree_core.proofs.DerivationStands.{cut-below, cut-nonempty}
use Rattle.tree_core.proofs.place.Place.kept.Goals as goal

pub complement_in-complement-requires-clause-fits : goal.complement_in-complement-requires-clause-fits
complement_in-complement-requires-clause-fits c = grind (arith, cut-below c.args.self.now.graph c.args.self.now.blocks c.args.shore c.requires)

pub complement_in-complement-requires-clause-nonempty : goal.complement_in-complement-requires-clause-nonempty
complement_in-complement-requires-clause-nonempty c = cut-nonempty c.args.self.now.graph c.args.self.now.blocks c.args.shore c.keeps_place.ensures.partition c.requires

-- the blocks are those where the complement is merged
kept : (c : goal.In_ok-partition) → c.in_ok-partition.partition.blocks ≡ kept_at c.args.self.now.graph.order c.args.self.now.blocks c.args.shore
kept c = grind arith

pub invariant_of-result : goal.invariant_of-result
invariant_of-result c = grind (arith, kept-covers)

pub returns-clause-length : goal.returns-clause-length
returns-clause-length c = grind (arith, kept-length)
