use Rattle.std.proofs.Common.{◌≡◌, false, take}
use Rattle.std.specs.List.{list_any}
use Rattle.allowed_edges.specs.EdgeTables.{share}
use Rattle.allowed_edges.proofs.table.EdgeTable.has_both.Given as goal

-- no block that was asked has both
abbrev pub invariant-loop-i : goal.invariant-loop-i
invariant-loop-i l = list_any (share l.e l.f) (take l.i l.self.blocks) ≡ false
