use Rattle.matching_digraph.proofs.TightShores.{closed_tight, ends_of_mates, tight_closed}
use Rattle.matching_digraph.proofs.laws.tight_shores_law.Goals as goal

pub returns : goal.returns
returns c g x m a b y is cov two perfect xa mates ya yb =
    let wa = (ends_of_mates g is m a b mates).0 in (
      (λ t. tight_closed g is x m two perfect a b wa mates xa y ya yb cov t),
      (λ closed. closed_tight g is x m two perfect a b wa mates xa y ya yb closed),
    )
