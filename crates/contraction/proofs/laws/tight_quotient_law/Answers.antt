use Rattle.contraction.proofs.QuotientLaws.{tight_at_down, tight_at_up}
use Rattle.contraction.proofs.laws.tight_quotient_law.Goals as goal

pub returns : goal.returns
returns c = λ g p x is pp u. (tight_at_down g p is pp x u, tight_at_up g p is pp x)
