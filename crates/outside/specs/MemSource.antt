-- A source in memory as its users see it.
-- Stated by: outside. Used by: mcg6_reader, mcg6_encoder.
use Rattle.std.specs.Prelude.{◌≡◌, ℕ, ◌-◌, ◌^◌, List, [], ◌++◌, length, min, max, slice_index_or, Option, Some, None}
use Rattle.outside.specs.Faults.{MayCount, next_call}

-- the bytes left; the most bytes for each call, in turn; the calls that are to fail, by their
-- numbers; the counts of calls and of errors
pub record SourceState : Type 0 where
  pub left : List ℕ
  pub sizes : List ℕ
  pub failing : List ℕ
  pub calls : ℕ
  pub faults : ℕ

-- the most bytes for the call of that number, counted from 1: at least one, and any number past
-- the planned ones
abbrev pub size_for : List ℕ → ℕ → ℕ
size_for sizes call = max (slice_index_or sizes (call - 1) (2 ^ 64 - 1)) 1

-- how many bytes the next read puts into a piece of that length
abbrev pub portion : SourceState → ℕ → ℕ
portion source size = min size (min (size_for source.sizes (next_call source.calls)) (length source.left))

-- the bytes of a read, none if it failed
abbrev pub bytes_given : Option (List ℕ) → List ℕ
bytes_given None = []
bytes_given (Some bytes) = bytes

-- a read that returned these bytes, or failed, leads from the first state to the second: it is
-- counted, and changes no plan
pub record IsGiven (before : SourceState) (given : Option (List ℕ)) (now : SourceState) : Type 0 where
  pub left : before.left ≡ bytes_given given ++ now.left
  pub sizes : now.sizes ≡ before.sizes
  pub failing : now.failing ≡ before.failing
  pub calls : now.calls ≡ next_call before.calls
  pub faults : MayCount before.faults now.faults
