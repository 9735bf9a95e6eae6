-- A stream of a runtime as its users see it.
-- Stated by: outside, theorems. Used by: bench_top, front_top, mcg6_top, mcg6_front_top.
use Rattle.std.specs.Prelude.{◌≡◌, ℕ, Bool, List, ◌++◌, take}
use Rattle.outside.specs.Faults.{MayCount}

-- the bytes that the runtime took, the count of errors, and whether the last write failed because
-- nobody reads any more
pub record PrintState : Type 0 where
  pub printed : List ℕ
  pub faults : ℕ
  pub is_abandoned : Bool

-- a write of that piece, of which the runtime took so many bytes, leads from the first state to the
-- second
pub record HasPrinted (before : PrintState) (piece : List ℕ) (count : ℕ) (now : PrintState) : Type 0 where
  pub printed : now.printed ≡ before.printed ++ take count piece
  pub faults : MayCount before.faults now.faults
