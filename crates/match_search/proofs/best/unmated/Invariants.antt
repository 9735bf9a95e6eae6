use Rattle.graph_core.proofs.from_counting.Common.{◌≡◌, ℕ, ◌-◌, ◌≤◌, ◌<◌, true, length, mem}
use Rattle.match_search.specs.Common.{numbers}
use Rattle.match_search.proofs.best.unmated.Given as goal

abbrev pub invariant-finding : goal.invariant-finding
invariant-finding l = record {
  first : 1 ≤ l.v;
  within : l.v ≤ length l.mate;
  found : (v : ℕ) → 1 ≤ v → v < l.v → numbers l.mate v ≡ 0 → mem l.found v ≡ true;
}

abbrev pub decreases-finding : goal.decreases-finding
decreases-finding l = length l.mate - l.v
