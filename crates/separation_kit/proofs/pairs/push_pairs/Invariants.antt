use Rattle.graph_core.proofs.from_counting.Common.{◌≡◌, ◌++◌, ◌≤◌, map, nat_lt, pair_with, rising_list}
use Rattle.graph_core.specs.Common.{pair_of}
use Rattle.separation_kit.proofs.pairs.push_pairs.Given as goal

abbrev pub invariant-loop-k : goal.invariant-loop-k
invariant-loop-k l = record {
  from : l.a ≤ l.k;
  pairs : map pair_of l.pairs.items ≡ map pair_of l.initial.pairs.items ++ map (pair_with l.a) (rising_list l.k (nat_lt l.a));
}
