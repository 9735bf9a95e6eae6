use Rattle.graph_core.proofs.from_counting.Common.{mem}
use Rattle.tight_cuts.specs.Common.{IsOneSided}
use Rattle.tight_cuts.proofs.quiet_edges.widened.Given as goal

abbrev pub invariant-loop-round : goal.invariant-loop-round
invariant-loop-round l = IsOneSided l.g l.e (mem l.reach)

abbrev pub invariant-loop-k : goal.invariant-loop-k
invariant-loop-k l = IsOneSided l.g l.e (mem l.reach)
