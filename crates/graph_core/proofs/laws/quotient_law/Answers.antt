use Rattle.graph_core.proofs.QuotientTight.{tight_up, tight_down}
use Rattle.graph_core.proofs.laws.quotient_law.Goals as goal

pub returns : goal.returns
returns c g p y is pp = (tight_down g p is pp y, tight_up g p is pp y)
