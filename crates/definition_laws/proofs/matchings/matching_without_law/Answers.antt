use Rattle.graph_core.proofs.Common.{is_matching_true, true_is_matching, missed_edges}
use Rattle.definition_laws.proofs.MatchingSizes.{has_matching_found, has_matching_says}
use Rattle.definition_laws.proofs.MatchingWords.{matching-words, words-matching}
use Rattle.definition_laws.proofs.matchings.matching_without_law.Goals as goal

pub returns-clause-test : goal.returns-clause-test
returns-clause-test c g r m = (is_matching_true g r m, true_is_matching g r m)

pub returns-clause-words : goal.returns-clause-words
returns-clause-words c g r m is = (matching-words g r m, λ w. words-matching g r m is.ends is.no_loop w.0 w.1)

pub returns-clause-size : goal.returns-clause-size
returns-clause-size c g r k = (has_matching_says g r k, has_matching_found g r k)

pub returns-clause-missed : goal.returns-clause-missed
returns-clause-missed c g r m is mm = missed_edges g r m is mm
