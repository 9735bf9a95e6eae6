use Rattle.theorems.proofs.MatchedParts.{apart, critical, deficiency, from_a, in_c, near, rest}
use Rattle.theorems.proofs.StableSets.{one_less, stable}
use Rattle.theorems.proofs.SurplusOfA.{more_parts}
use Rattle.theorems.proofs.ThreeSets.{attains, three_sets}
use Rattle.theorems.proofs.matchings.gallai_edmonds_law.Goals as goal

pub returns : goal.returns
returns x = record {
  sets = three_sets;
  critical = λ g d a c u is sets. critical g is d a c sets u;
  rest = λ g d a c is sets. rest g is d a c sets;
  berge = λ g d a c m is sets. attains g is d a c sets m;
  deficiency = λ g d a c m is sets. deficiency g is d a c sets m;
  in_c = λ g d a c m is sets mm. in_c g is d a c sets m mm;
  near = λ g d a c m u is sets mm. near g is d a c sets m mm u;
  from_a = λ g d a c m v is sets mm. from_a g is d a c sets m mm v;
  apart = λ g d a c m u is sets mm. apart g is d a c sets m mm u;
  surplus = λ g d a c s is sets sub. more_parts g is d a c sets s sub;
  stable = λ g d a c v w is sets wv av ww vw. stable g is d a c sets v wv av w ww vw;
  one_less = λ g d a c m k v is sets wv av mm kk. one_less g is d a c sets v wv av m k mm kk;
}
