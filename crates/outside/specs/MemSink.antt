-- A sink in memory as its users see it.
-- Stated by: outside.
use Rattle.std.specs.Prelude.{◌≡◌, ℕ, ◌-◌, List, ◌++◌, length, take, min}
use Rattle.outside.specs.Faults.{MayCount, next_call}

-- what was written; how many bytes fit, and how many per call; the calls that are to fail, by their
-- numbers; the counts of calls and of errors
pub record SinkState : Type 0 where
  pub written : List ℕ
  pub room : ℕ
  pub most : ℕ
  pub failing : List ℕ
  pub calls : ℕ
  pub faults : ℕ

-- how many bytes of a piece of that length a write takes
abbrev pub share : SinkState → ℕ → ℕ
share sink size = min size (min sink.most (sink.room - length sink.written))

-- a write of that piece, which took so many of its bytes, leads from the first state to the
-- second: it is counted, and changes no plan
pub record IsWrite (before : SinkState) (piece : List ℕ) (count : ℕ) (now : SinkState) : Type 0 where
  pub written : now.written ≡ before.written ++ take count piece
  pub room : now.room ≡ before.room
  pub most : now.most ≡ before.most
  pub failing : now.failing ≡ before.failing
  pub calls : now.calls ≡ next_call before.calls
  pub faults : MayCount before.faults now.faults
