use Rattle.tree_core.proofs.CutsBelow.{covered-leaves}
use Rattle.tree_core.proofs.DerivationLeaves.{partitions-leaves, uncut-leaves}
use Rattle.tree_core.proofs.laws.derivation_leaves_law.Goals as goal

pub returns : goal.returns
returns c = record { partitions = partitions-leaves; uncut = uncut-leaves; covered = covered-leaves }
