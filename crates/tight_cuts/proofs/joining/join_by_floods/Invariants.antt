use Rattle.tight_cuts.specs.Common.{AreClusters}
use Rattle.tight_cuts.proofs.joining.join_by_floods.Given as goal

abbrev pub invariant-loop-k : goal.invariant-loop-k
invariant-loop-k l = AreClusters l.c l.clusters
