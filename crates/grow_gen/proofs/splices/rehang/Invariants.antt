use Rattle.std.proofs.Common.{◌≡◌, ◌≤◌, map, length, drop}
use Rattle.graph_core.proofs.Common.{pair_of}
use Rattle.grow_gen.specs.Common.{rehung_edges}
use Rattle.grow_gen.proofs.RehangSteps.{Halfway}
use Rattle.grow_gen.proofs.splices.rehang.Given as goal

abbrev pub invariant-loop-edge : goal.invariant-loop-edge
invariant-loop-edge l = record {
  in_range : l.next ≤ length l.targets;
  so_far : Halfway l.w (drop l.next l.targets) l.edge-index l.edge-items ≡ rehung_edges l.w l.targets (map pair_of l.initial.edge-items);
}
