use Rattle.graph_core.proofs.Common.{is_perfect_true, true_is_perfect}
use Rattle.definition_laws.proofs.MatchingWords.{avoids_none, meets-perfect, perfect-avoids, perfect-meets, perfect-no_loop}
use Rattle.counting.proofs.Common.{none}
use Rattle.definition_laws.proofs.matchings.perfect_law.Goals as goal

pub returns-clause-test : goal.returns-clause-test
returns-clause-test c g r m = (is_perfect_true g r m, true_is_perfect g r m)

pub returns-clause-words : goal.returns-clause-words
returns-clause-words c g r m is = (
  λ p. (perfect-no_loop g r m is p, perfect-avoids g r m p, perfect-meets g r m p),
  λ w. meets-perfect g r m w.0 w.1 w.2,
)

pub returns-clause-whole : goal.returns-clause-whole
returns-clause-whole c g m is = (perfect-meets g none m, meets-perfect g none m (λ e w h. is.no_loop e w) (avoids_none g m))
