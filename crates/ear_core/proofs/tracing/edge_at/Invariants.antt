use Rattle.std.proofs.Common.{◌≡◌, drop}
use Rattle.ear_core.specs.Common.{row_edge}
use Rattle.ear_core.proofs.tracing.edge_at.Given as goal

-- the rows that are left decide
abbrev pub invariant-loop-i : goal.invariant-loop-i
invariant-loop-i l = row_edge l.m.rows l.v ≡ row_edge (drop l.i l.m.rows) l.v
