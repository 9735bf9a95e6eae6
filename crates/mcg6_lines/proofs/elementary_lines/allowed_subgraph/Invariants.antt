use Rattle.graph_core.proofs.Common.{first_end, is_allowed, second_end, size}
use Rattle.std.proofs.Common.{◌≡◌, ◌≤◌}
use Rattle.mcg6_lines.proofs.TakenEdges.{Takes}
use Rattle.mcg6_lines.proofs.elementary_lines.allowed_subgraph.Given as goal

-- it has those of the edges so far that are allowed
abbrev pub invariant-loop-done : goal.invariant-loop-done
invariant-loop-done l = record {
  order : l.allowed.order ≡ l.g.order;
  few : size l.allowed ≤ l.done;
  takes : Takes l.g.order (λ e. (first_end l.g e, second_end l.g e)) (is_allowed l.g) l.done l.allowed;
}
