use Rattle.graph_core.proofs.from_counting.Common.{mem}
use Rattle.tight_cuts.specs.Common.{IsOneSided}
use Rattle.tight_cuts.proofs.quiet_edges.widened_along.Given as goal

abbrev pub invariant-loop-i : goal.invariant-loop-i
invariant-loop-i l = IsOneSided l.g l.e (mem l.reach)
