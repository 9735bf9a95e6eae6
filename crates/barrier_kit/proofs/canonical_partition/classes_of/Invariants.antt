use Rattle.graph_core.proofs.from_counting.Common.{◌≡◌, ℕ, map, Within, mem, rising_list, some}
use Rattle.graph_core.proofs.Common.{is_equivalent, is_least_of_class}
use Rattle.barrier_kit.proofs.canonical_partition.classes_of.Given as goal

abbrev pub invariant-loop-k : goal.invariant-loop-k
invariant-loop-k l = record {
  list : l.list ≡ map (λ a. rising_list l.c.order (is_equivalent l.c a)) (rising_list l.k (is_least_of_class l.c));
  met : (v : ℕ) → Within l.c.order v → mem l.met v ≡ some l.k (λ a. is_equivalent l.c a v);
}
