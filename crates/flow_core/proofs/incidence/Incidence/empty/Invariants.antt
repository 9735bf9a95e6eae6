use Rattle.std.proofs.Common.{◌≡◌, ℕ, [], vec_len, All}
use Rattle.std.specs.Global.{Vec}
use Rattle.flow_core.proofs.incidence.Incidence.empty.Given as goal

abbrev pub invariant-loop-v : goal.invariant-loop-v
invariant-loop-v l = (vec_len l.rows ≡ l._v) × All (λ (row : Vec ℕ). row.items ≡ []) l.rows.items
