use Rattle.allowed_edges.proofs.from_counting.Common.{◌≡◌, ◌≤◌, count, mem}
use Rattle.plain_graph.specs.Parts.{begins_odd_part}
use Rattle.plain_graph.proofs.parts.odd_component_count.Given as goal

abbrev pub invariant-loop-i : goal.invariant-loop-i
invariant-loop-i l = record { found : l.found ≡ count l.i (begins_odd_part l.graph (mem l.removed)); few : l.found ≤ l.i }
