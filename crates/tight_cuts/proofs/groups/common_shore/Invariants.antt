use Rattle.std.proofs.Common.{◌≤◌, length}
use Rattle.tight_cuts.specs.Common.{AreMatchings}
use Rattle.tight_cuts.proofs.groups.common_shore.Given as goal

abbrev pub invariant-loop-listed : goal.invariant-loop-listed
invariant-loop-listed l = record {
  matchings : AreMatchings l.g l.matchings;
  more : l._listed ≤ length l.matchings.pairs.list;
}
