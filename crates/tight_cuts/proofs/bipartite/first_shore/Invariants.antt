use Rattle.std.proofs.Common.{◌+◌}
use Rattle.tight_cuts.specs.Common.{NoneBefore}
use Rattle.tight_cuts.proofs.bipartite.first_shore.Given as goal

abbrev pub invariant-loop-k : goal.invariant-loop-k
invariant-loop-k l = NoneBefore l.c l.e (l.k + 1) 1
