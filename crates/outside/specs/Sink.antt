-- What a sink makes known of its bytes, and which writes lead from one sink to another.
-- Stated by: outside, theorems.
-- Used by: mcg6_reader, mcg6_encoder, front_words, bench_outcomes, bench_top.
use Rattle.std.specs.Prelude.{◌≡◌, ℕ, ◌+◌, ◌<◌, zero, suc, List, ◌++◌, length, drop, Result, Ok, Err, Option, Some, None}

-- the bytes written once a piece is appended, if they are known
abbrev pub appended : Option (List ℕ) → List ℕ → Option (List ℕ)
appended None piece = None
appended (Some bytes) piece = Some (bytes ++ piece)

-- how many bytes a write took: none if it failed
abbrev pub taken_by : {E : Type 0} → Result ℕ E → ℕ
taken_by (Ok count) = count
taken_by (Err error) = 0

-- so many calls, each a write of what was left of the bytes that took some of it, took the first
-- `done` bytes, and lead from the first sink to the last
abbrev pub WritesTake : {K : Type 0} → (K → List ℕ → ℕ → K → Type 0) → List ℕ → (calls done : ℕ) → (first last : K) → Type 0
WritesTake writes bytes zero done first last = (done ≡ 0) × (last ≡ first)
WritesTake {K} writes bytes (suc calls) done first last =
    (before : ℕ) × (count : ℕ) × (next : K) × (WritesTake writes bytes calls before first next)
    × (0 < count) × (done ≡ before + count) × (writes next (drop before bytes) count last)

-- the bytes were written completely, and nothing else
pub record IsWritten {K : Type 0} (writes : K → List ℕ → ℕ → K → Type 0) (bytes : List ℕ) (first last : K) : Type 0 where
  pub calls : ℕ
  pub turns : WritesTake writes bytes calls (length bytes) first last

-- the first `count` bytes were written, and then a write of the others, which are not empty,
-- failed or took none of them: no write follows it
pub record IsCutOff {K : Type 0} (writes : K → List ℕ → ℕ → K → Type 0) (bytes : List ℕ) (count : ℕ) (first last : K) : Type 0 where
  pub less : count < length bytes
  pub calls : ℕ
  pub cut_at : K
  pub turns : WritesTake writes bytes calls count first cut_at
  pub failed : writes cut_at (drop count bytes) 0 last
