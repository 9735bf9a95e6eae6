use Rattle.std.proofs.Common.{◌≡◌, ◌-◌}
use Rattle.flow_core.specs.Common.{visited_node, IsSearch}
use Rattle.flow_core.proofs.search.search.Given as goal

abbrev pub invariant-scanning : goal.invariant-scanning
invariant-scanning l = record {
  search : IsSearch l.net l.amounts l.sink l.head l.reached.visits.items l.reached.seen;
  root : visited_node l.reached.visits.items 0 ≡ l.source;
}

abbrev pub decreases-scanning : goal.decreases-scanning
decreases-scanning l = l.net.nodes - l.head
