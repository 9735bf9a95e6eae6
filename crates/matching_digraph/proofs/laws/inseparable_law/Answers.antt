use Rattle.matching_digraph.proofs.Spans.{none_spans, none_spans_back, spans_none}
use Rattle.matching_digraph.proofs.TightShores.{ends_of_mates}
use Rattle.matching_digraph.proofs.laws.inseparable_law.Goals as goal

pub returns : goal.returns
returns c g x m a b r is cov two perfect xa mates wr ra rb =
    let w = ends_of_mates g is m a b mates in (
      (λ clear. (none_spans g is cov m perfect x two a b r w.0 w.1 wr mates xa ra rb clear, none_spans_back g is cov m perfect x two a b r w.0 w.1 wr mates xa ra rb clear)),
      (λ both. spans_none g is cov m perfect x two a b r w.0 w.1 wr mates xa ra rb both.0 both.1),
    )
