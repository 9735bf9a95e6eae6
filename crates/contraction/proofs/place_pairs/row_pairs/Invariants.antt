use Rattle.graph_core.proofs.from_counting.Common.{◌≡◌, ℕ, map, flat_map, Within, IsRisingIn, item, pair_with, rising_list, everything}
use Rattle.graph_core.proofs.Common.{pair_of}
use Rattle.contraction.proofs.place_pairs.row_pairs.Given as goal

abbrev pub invariant-loop-i : goal.invariant-loop-i
invariant-loop-i l = record {
  pairs : map pair_of l.pairs.items ≡ flat_map (λ a. map (pair_with a) (item l.rows a)) (rising_list l.i everything);
  rising : (k : ℕ) → Within l.i k → IsRisingIn 128 (item l.rows k);
}
