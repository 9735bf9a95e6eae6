use Rattle.tree_core.proofs.DerivationStands.{fits-derivation, stands-derivation}
use Rattle.tree_core.proofs.laws.derivation_stands_law.Goals as goal

pub returns : goal.returns
returns c = record { fits = fits-derivation; stands = stands-derivation }
