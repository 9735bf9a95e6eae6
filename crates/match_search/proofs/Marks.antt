-- Rows of marks: a new row marks nothing. Idea: each item of a repeated value is that value, and
-- past the end a row is false by definition.
use Rattle.std.proofs.Common.{◌≡◌, ℕ, suc, zero, false, refl, replicate}
use Rattle.match_search.specs.Common.{marks}

-- no place of a new row is marked
pub no-marks : (n e : ℕ) → marks (replicate n false) e ≡ false
no-marks zero e = refl
no-marks (suc n) zero = refl
no-marks (suc n) (suc e) = no-marks n e
