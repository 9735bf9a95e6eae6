use Rattle.tree_core.proofs.CutsBelow.{few-leaves}
use Rattle.tree_core.proofs.laws.derivation_size_law.Goals as goal

pub returns : goal.returns
returns c = few-leaves
