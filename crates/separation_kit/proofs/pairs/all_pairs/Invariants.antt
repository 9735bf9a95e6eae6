use Rattle.graph_core.proofs.from_counting.Common.{◌≡◌, flat_map, map, nat_lt, pair_with, rising_list, everything}
use Rattle.graph_core.specs.Common.{pair_of}
use Rattle.separation_kit.proofs.pairs.all_pairs.Given as goal

abbrev pub invariant-loop-i : goal.invariant-loop-i
invariant-loop-i l = map pair_of l.pairs.items ≡ flat_map (λ a. map (pair_with a) (rising_list l.n (nat_lt a))) (rising_list l.i everything)
