use Rattle.allowed_edges.proofs.from_counting.Common.{◌≡◌, ℕ, true, Within, mem}
use Rattle.graph_core.proofs.Common.{adjacent, reaches}
use Rattle.plain_graph.proofs.parts.joined_to.Given as goal

abbrev pub invariant-loop-step : goal.invariant-loop-step
invariant-loop-step l = record {
  joined : (v : ℕ) → Within l.graph.order v → mem l.reached v ≡ reaches l.graph.order (adjacent l.graph (mem l.removed)) l.u l.step v;
  vertices : (v : ℕ) → mem l.reached v ≡ true → Within l.graph.order v;
}
