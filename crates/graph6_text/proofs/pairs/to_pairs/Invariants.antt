use Rattle.std.proofs.Common.{◌≡◌, ◌+◌, ◌-◌, ◌≤◌, map}
use Rattle.graph_core.proofs.Common.{pair_of}
use Rattle.graph6_text.specs.Common.{column_pairs}
use Rattle.graph6_text.proofs.pairs.to_pairs.Given as goal

abbrev pub invariant-loop-b : goal.invariant-loop-b
invariant-loop-b l = (map pair_of l.pairs.items ≡ column_pairs (l.b - 1)) × (l.b ≤ l.n + 1)
