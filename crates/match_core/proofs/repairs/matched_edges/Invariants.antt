use Rattle.std.proofs.Common.{◌≡◌, ◌+◌, length}
use Rattle.match_search.specs.Common.{marks, NamesEdges}
use Rattle.match_core.proofs.repairs.matched_edges.Given as goal

abbrev pub invariant-loop-k : goal.invariant-loop-k
invariant-loop-k l = record { long : length l.at.items ≡ l.n + 1; named : NamesEdges l.ends (marks l.mark) l.at.items l.k }
