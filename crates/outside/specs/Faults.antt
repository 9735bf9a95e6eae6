-- Counts of errors and of calls, which never decrease and saturate at their largest value.
-- Stated by: outside, mcg6_reader, mcg6_encoder.
-- Used by: front_words, bench_tasks, bench_top, mcg6_top.
use Rattle.std.specs.Prelude.{◌≡◌, ℕ, ◌+◌, ◌-◌, ◌^◌, ◌≤◌, ◌⊎◌, ◌==◌, ◌&&◌, min, nat_lt, if◌then◌else◌}

-- a count of errors after one more
abbrev pub next_fault : ℕ → ℕ
next_fault faults = min (faults + 1) (2 ^ 64 - 1)

-- the count of errors after a write that took so many bytes of a piece of that size: one more if
-- none was taken and the piece is not empty
abbrev pub faults_after : ℕ → ℕ → ℕ → ℕ
faults_after faults count size = if count == 0 && nat_lt 0 size then next_fault faults else faults

-- at most one error was counted
abbrev pub MayCount : ℕ → ℕ → Type 0
MayCount before now = (now ≡ before) ⊎ (now ≡ next_fault before)

-- a count of calls after one more: the number of that call, counted from 1
abbrev pub next_call : ℕ → ℕ
next_call calls = min (calls + 1) (2 ^ 32 - 1)

-- the count of errors is larger now than before, or has reached the largest u64
abbrev pub Rose : ℕ → ℕ → Type 0
Rose before now = next_fault before ≤ now
