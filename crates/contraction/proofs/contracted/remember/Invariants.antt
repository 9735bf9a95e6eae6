use Rattle.graph_core.proofs.from_counting.Common.{◌≡◌, ℕ, length, map, take, rising_list}
use Rattle.graph_core.proofs.Common.{has_ends, graph_of, pair_of}
use Rattle.indexmap.specs.IndexMap.{keys}
use Rattle.contraction.proofs.contracted.remember.Given as goal

abbrev pub invariant-loop-pair : goal.invariant-loop-pair
invariant-loop-pair l = record {
  keys : keys l.kept ≡ map pair_of (take l.pair-index l.pairs);
  edges : map (λ entry. entry.1.items) l.kept.entries ≡ map (λ (pair : ℕ × ℕ). rising_list (length l.ends) (has_ends (graph_of 0 l.ends) pair.0 pair.1)) (map pair_of (take l.pair-index l.pairs));
}
