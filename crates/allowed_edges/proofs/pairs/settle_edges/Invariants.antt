use Rattle.std.proofs.Common.{◌+◌}
use Rattle.allowed_edges.specs.PairTables.{SettlesEdges}
use Rattle.allowed_edges.proofs.pairs.settle_edges.Given as goal

abbrev pub invariant-loop-k : goal.invariant-loop-k
invariant-loop-k l = SettlesEdges l.g (l.k + 1) l.pairs
