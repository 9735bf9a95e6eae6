use Rattle.graph_core.proofs.from_counting.Common.{◌<◌, mem}
use Rattle.tight_cuts.specs.Common.{AreRowsWithout, IsOneSided}
use Rattle.tight_cuts.proofs.joining.reach_of.Given as goal

abbrev pub invariant-loop-round : goal.invariant-loop-round
invariant-loop-round l = record {
  rows : AreRowsWithout l.g l.e l.rows;
  reach : IsOneSided l.g l.e (mem l.reach);
  idle : l.idle < 4;
}
