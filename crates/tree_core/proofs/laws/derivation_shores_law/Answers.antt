use Rattle.tree_core.proofs.DerivationShores.{cut-shore, shore-cut, tight-shores}
use Rattle.tree_core.proofs.laws.derivation_shores_law.Goals as goal

pub returns : goal.returns
returns c = record { root = λ g x is. (cut-shore g x is, shore-cut g x is); tight = tight-shores }
