use Rattle.std.proofs.Common.{◌+◌}
use Rattle.tight_cuts.specs.Common.{AreMatchings, NoneBefore}
use Rattle.tight_cuts.proofs.edge_search.first_shore.Given as goal

abbrev pub invariant-loop-k : goal.invariant-loop-k
invariant-loop-k l = record {
  matchings : AreMatchings l.g l.matchings;
  before : NoneBefore l.g l.e (l.k + 1) 1;
}
