use Rattle.std.proofs.Common.{◌-◌}
use Rattle.flow_core.specs.Common.{total_capacity, IsFlow}
use Rattle.flow_core.proofs.cut.grow_above.Given as goal

abbrev pub invariant-growing : goal.invariant-growing
invariant-growing l = IsFlow l.net l.source l.sink l.flow.on l.flow.value

abbrev pub decreases-growing : goal.decreases-growing
decreases-growing l = total_capacity l.net - l.flow.value
