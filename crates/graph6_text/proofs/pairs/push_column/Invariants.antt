use Rattle.std.proofs.Common.{◌≡◌, ◌-◌, ◌++◌, map}
use Rattle.graph_core.proofs.Common.{pair_of}
use Rattle.graph6_text.specs.Common.{column}
use Rattle.graph6_text.proofs.pairs.push_column.Given as goal

abbrev pub invariant-loop-a : goal.invariant-loop-a
invariant-loop-a l = map pair_of l.pairs.items ≡ map pair_of l.initial.pairs.items ++ column (l.a - 1) l.b
