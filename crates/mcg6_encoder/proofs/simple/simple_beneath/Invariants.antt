use Rattle.std.proofs.Common.{◌≡◌, ◌≤◌}
use Rattle.graph_core.proofs.Common.{size}
use Rattle.mcg6_encoder.proofs.Beneath.{KeepsFirst}
use Rattle.mcg6_encoder.proofs.simple.simple_beneath.Given as goal

-- it keeps of the edges so far those whose ends no edge joins that was kept before
abbrev pub invariant-loop-done : goal.invariant-loop-done
invariant-loop-done l = record {
  order : l.simple.order ≡ l.g.order;
  few : size l.simple ≤ l.done;
  keeps : KeepsFirst l.g l.done l.simple;
}
