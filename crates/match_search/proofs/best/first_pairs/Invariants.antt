use Rattle.graph_core.proofs.from_counting.Common.{◌≡◌, ℕ, ◌+◌, false, length, Within, Set, mem}
use Rattle.graph_core.proofs.Common.{degree, graph_of}
use Rattle.match_search.specs.Common.{HasMates, numbers}
use Rattle.match_search.proofs.best.first_pairs.Given as goal

abbrev pub invariant-loop-e : goal.invariant-loop-e
invariant-loop-e l = record {
  long : length l.mate.items ≡ l.n + 1;
  m : Set;
  has : HasMates (graph_of l.n l.ends) (mem l.fn.removed) m (numbers l.mate.items);
  free : (v : ℕ) → Within l.n v → mem l.met v ≡ false → (mem l.fn.removed v ≡ false) × (degree (graph_of l.n l.ends) m v ≡ 0);
  met : (v : ℕ) → mem l.fn.removed v ≡ false → numbers l.mate.items v ≡ 0 → mem l.met v ≡ false;
}
