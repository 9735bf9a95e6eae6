use Rattle.std.proofs.Common.{◌≡◌, ◌+◌, length}
use Rattle.match_core.specs.Common.{NamesPairs}
use Rattle.match_core.proofs.repairs.paired_edges.Given as goal

abbrev pub invariant-loop-k : goal.invariant-loop-k
invariant-loop-k l = record { long : length l.at.items ≡ l.n + 1; named : NamesPairs l.n l.ends l.mate l.at.items l.k }
