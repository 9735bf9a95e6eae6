use Rattle.std.proofs.Common.{◌≡◌}
use Rattle.flow_core.specs.Common.{first_node}
use Rattle.flow_core.proofs.Scanning.{IsScanning}
use Rattle.flow_core.proofs.search.scan.Given as goal

abbrev pub invariant-loop-i : goal.invariant-loop-i
invariant-loop-i l = record {
  scanning : IsScanning l.net l.amounts l.sink l.head l.from l.i-items l.i-index l.reached.visits.items l.reached.seen;
  first : first_node l.reached.visits.items ≡ first_node l.initial.reached.visits.items;
}
