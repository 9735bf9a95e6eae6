use Rattle.definition_laws.proofs.BlockWords.{meets-perfect_at, perfect-leaves, perfect-meets_blocks}
use Rattle.definition_laws.proofs.partitions.perfect_at_law.Goals as goal

pub returns : goal.returns
returns c g p m is pp = (λ h. (perfect-leaves g p is pp m h, perfect-meets_blocks g p is pp m h), λ w. meets-perfect_at g p is pp m w.0 w.1)
