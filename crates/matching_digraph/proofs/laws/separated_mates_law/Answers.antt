use Rattle.matching_digraph.proofs.Spans.{none_at_all}
use Rattle.matching_digraph.proofs.laws.separated_mates_law.Goals as goal

pub returns : goal.returns
returns c g x m is cov two perfect = (
  (λ clear a b xa mates y t n ya yb. clear y t n),
  (λ each y t n. none_at_all g is cov m perfect x two (λ a b wa wb xa mates. each a b xa mates) y t n),
)
