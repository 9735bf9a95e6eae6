use Rattle.graph_core.proofs.from_counting.Common.{mem}
use Rattle.barrier_kit.specs.from_allowed_edges.PairTables.{IsPerfectWith}
use Rattle.tight_cuts.specs.Common.{AreMatchings, IsOneSided}
use Rattle.tight_cuts.proofs.quiet_edges.reach_of.Given as goal

abbrev pub invariant-loop-round : goal.invariant-loop-round
invariant-loop-round l = record {
  matchings : AreMatchings l.g l.matchings;
  kept : IsPerfectWith l.g l.e l.kept;
  reach : IsOneSided l.g l.e (mem l.reach);
}

abbrev pub invariant-loop-k : goal.invariant-loop-k
invariant-loop-k l = record {
  matchings : AreMatchings l.g l.matchings;
  kept : IsPerfectWith l.g l.e l.kept;
  reach : IsOneSided l.g l.e (mem l.reach);
}
