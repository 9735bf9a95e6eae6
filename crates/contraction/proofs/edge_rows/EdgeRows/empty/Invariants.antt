use Rattle.std.proofs.Common.{◌≡◌, ℕ, [], vec_len, All}
use Rattle.std.specs.Global.{Vec}
use Rattle.contraction.proofs.edge_rows.EdgeRows.empty.Given as goal

abbrev pub invariant-loop-place : goal.invariant-loop-place
invariant-loop-place l = (vec_len l.rows ≡ l._place) × All (λ (row : Vec ℕ). row.items ≡ []) l.rows.items
