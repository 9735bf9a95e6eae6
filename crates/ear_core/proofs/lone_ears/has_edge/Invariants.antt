use Rattle.graph_core.proofs.from_counting.Common.{◌≡◌, drop, map, mem}
use Rattle.two_ears.specs.from_match_core.declared.matching.MatchRow.{MatchRow}
use Rattle.ear_core.proofs.lone_ears.has_edge.Given as goal

-- the rows that are left decide
abbrev pub invariant-loop-i : goal.invariant-loop-i
invariant-loop-i l = mem (map (λ (row : MatchRow). row.edge) l.m.rows) l.e ≡ mem (map (λ (row : MatchRow). row.edge) (drop l.i l.m.rows)) l.e
