use Rattle.std.proofs.Common.{◌≡◌, ◌≤◌, ◌+◌, ◌-◌, ◌++◌, ℕ, List, vec_len}
use Rattle.std.specs.Io.KnownBytes.{Consumes}
use Rattle.outside.proofs.edge.fill.Given as goal

abbrev pub invariant-reading : goal.invariant-reading
invariant-reading g l = record {
  few : vec_len l.bytes ≤ l.limit + 1;
  read : (gone : List ℕ) × (l.bytes.items ≡ l.fn.bytes.items ++ gone) × Consumes (g.F.Read.remaining l.fn.file) (g.F.Read.remaining l.file) gone;
}

abbrev pub decreases-reading : goal.decreases-reading
decreases-reading g l = l.limit + 1 - vec_len l.bytes
