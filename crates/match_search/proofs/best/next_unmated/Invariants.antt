use Rattle.std.proofs.Common.{◌≢◌, ℕ, ◌-◌, ◌≤◌, ◌<◌, length}
use Rattle.match_search.specs.Common.{numbers}
use Rattle.match_search.proofs.best.next_unmated.Given as goal

abbrev pub invariant-passing : goal.invariant-passing
invariant-passing l = record {
  after : l.from ≤ l.v;
  within : l.v ≤ length l.mate;
  passed : (v : ℕ) → l.from ≤ v → v < l.v → numbers l.mate v ≢ 0;
}

abbrev pub decreases-passing : goal.decreases-passing
decreases-passing l = length l.mate - l.v
