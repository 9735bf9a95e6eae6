use Rattle.allowed_edges.proofs.from_counting.Common.{◌≡◌, ◌<◌, ◌&&◌, ◌||◌, ℕ, true, Within, mem, some}
use Rattle.graph_core.proofs.Common.{adjacent}
use Rattle.plain_graph.proofs.parts.one_step_more.Given as goal

abbrev pub invariant-loop-i : goal.invariant-loop-i
invariant-loop-i l = record {
  done : (v : ℕ) → Within l.i v → mem l.more v ≡ (mem l.reached v || some l.graph.order (λ u. mem l.reached u && adjacent l.graph (mem l.removed) u v));
  rest : (v : ℕ) → l.i < v → mem l.more v ≡ mem l.reached v;
  vertices : (v : ℕ) → mem l.more v ≡ true → Within l.graph.order v;
}
