use Rattle.definition_laws.proofs.BlockWords.{tight-words, words-tight}
use Rattle.definition_laws.proofs.partitions.tight_at_law.Goals as goal

pub returns : goal.returns
returns c g p x is pp = (tight-words g p is pp x, λ w. words-tight g p is pp x w.0 w.1 w.2 w.3)
