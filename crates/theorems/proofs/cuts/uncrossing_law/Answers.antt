use Rattle.graph_core.proofs.Common.{meet_tight, no_edge_joins, union_tight}
use Rattle.theorems.proofs.cuts.uncrossing_law.Goals as goal

pub returns : goal.returns
returns x = record {
  tight = λ g x y is cov tx ty odd. (meet_tight g is cov x y tx ty odd, union_tight g is cov x y tx ty odd);
  edges = λ g x y e is cov tx ty odd w. no_edge_joins g is cov x y tx ty odd e w;
}
