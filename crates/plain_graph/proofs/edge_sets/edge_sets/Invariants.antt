use Rattle.std.proofs.Common.{◌≡◌}
use Rattle.plain_graph.specs.Subsets.{subsets}
use Rattle.plain_graph.proofs.edge_sets.edge_sets.Given as goal

abbrev pub invariant-loop-i : goal.invariant-loop-i
invariant-loop-i l = l.sets ≡ subsets l.i
