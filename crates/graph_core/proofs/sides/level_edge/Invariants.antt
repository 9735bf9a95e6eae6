use Rattle.vset_core.proofs.from_counting.Common.{◌≡◌, ◌<◌, ℕ, not, get_or, is_odd}
use Rattle.graph_core.specs.Common.{depth_at}
use Rattle.graph_core.specs.declared.ends.Ends.{Ends}
use Rattle.graph_core.proofs.sides.level_edge.Given as goal

abbrev pub invariant-loop-edge : goal.invariant-loop-edge
invariant-loop-edge l =
    (k : ℕ) (d : Ends) → k < l.edge-index → is_odd (depth_at l.nodes (get_or l.edges k d).a) ≡ not (is_odd (depth_at l.nodes (get_or l.edges k d).b))
