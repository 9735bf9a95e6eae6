use Rattle.std.proofs.Common.{◌≡◌}
use Rattle.flow_core.proofs.Pushing.{IsPushed}
use Rattle.flow_core.proofs.flow.Flow.augment.Given as goal

abbrev pub invariant-pushing : goal.invariant-pushing
invariant-pushing l = record {
  pushed : IsPushed l.net l.fn.self.on l.self.on l.visits l.more l.at;
  value : l.self.value ≡ l.fn.self.value;
}

abbrev pub decreases-pushing : goal.decreases-pushing
decreases-pushing l = l.at
