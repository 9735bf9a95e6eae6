use Rattle.allowed_edges.proofs.from_counting.Common.{◌≡◌, ◌≤◌, ◌&&◌, length, mem}
use Rattle.graph_core.proofs.Common.{first_end, inside, is_allowed, second_end, size}
use Rattle.mcg6_lines.specs.Elementary.{number_in}
use Rattle.mcg6_lines.proofs.TakenEdges.{Takes}
use Rattle.mcg6_lines.proofs.elementary_lines.component_graph.Given as goal

-- it has those of the edges so far that are allowed and inside the vertex set
abbrev pub invariant-loop-done : goal.invariant-loop-done
invariant-loop-done l = record {
  order : l.component.order ≡ length l.part;
  few : size l.component ≤ l.done;
  takes : Takes (length l.part) (λ e. (number_in l.part (first_end l.g e), number_in l.part (second_end l.g e))) (λ e. is_allowed l.g e && inside l.g (mem l.part) e) l.done l.component;
}
