use Rattle.std.proofs.Common.{◌≡◌, ◌+◌, ◌-◌, ◌*◌, ◌≤◌}
use Rattle.flow_core.specs.Common.{total_capacity, IsFlow, first_node, IsLaid, work_left}
use Rattle.flow_core.proofs.layers.Layers.fill.Given as goal

abbrev pub invariant-filling : goal.invariant-filling
invariant-filling l = record {
  laid : IsLaid l.net l.incidence l.flow.on l.self.levels.items l.self.places.items l.self.path.items;
  first : first_node l.self.path.items ≡ first_node l.fn.self.path.items;
  flow : IsFlow l.net (first_node l.fn.self.path.items) l.sink l.flow.on l.flow.value;
  more : l.fn.flow.value ≤ l.flow.value;
}

abbrev pub decreases-filling : goal.decreases-filling
decreases-filling l = work_left l.net.nodes l.incidence l.self.places.items l.self.path.items + 257 * (total_capacity l.net - l.flow.value)
