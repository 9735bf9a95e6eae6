-- What a call that says a text to a sink returns, and which writes it makes.
-- Stated by: front_words, front_top, mcg6_front_top.
use Rattle.std.specs.Prelude.{◌≡◌, ◌≤◌, ◌<◌, ℕ, zero, suc, List, [], ◌++◌, length, OnOk, OnErr, Option, Result}
use Rattle.outside.specs.Common.{Rose, appended}
use Rattle.outside.specs.declared.sink.SinkFailed.{SinkFailed}

-- a beginning of the text was appended to what the sink had, maybe all of it
pub record IsBegun (text : List ℕ) (before now : Option (List ℕ)) : Type 0 where
  pub done : List ℕ
  pub rest : List ℕ
  pub is_text : text ≡ done ++ rest
  pub written : now ≡ appended before done

-- so many writes, each of which took some bytes, took this text together, and lead from the first
-- sink to the last (`WritesTake` of `outside` says it with counts of bytes: `taken-turns`)
abbrev pub WritesTaken : {K : Type 0} → (K → List ℕ → ℕ → K → Type 0) → (calls : ℕ) → List ℕ → (first last : K) → Type 0
WritesTaken writes zero text first last = (text ≡ []) × (last ≡ first)
WritesTaken {K} writes (suc calls) text first last =
    (before : List ℕ) × (took : List ℕ) × (left : List ℕ) × (next : K) × (WritesTaken writes calls before first next)
    × (0 < length took) × (text ≡ before ++ took) × (writes next (took ++ left) (length took) last)

-- the text was written whole, and nothing else
pub record WritesWhole {K : Type 0} (writes : K → List ℕ → ℕ → K → Type 0) (text : List ℕ) (first last : K) : Type 0 where
  pub calls : ℕ
  pub turns : WritesTaken writes calls text first last

-- a beginning of the text was written, and then a write of more of it failed or took none of it: no
-- write follows it
pub record WritesUntilFault {K : Type 0} (writes : K → List ℕ → ℕ → K → Type 0) (text : List ℕ) (first last : K) : Type 0 where
  pub done : List ℕ
  pub piece : List ℕ
  pub rest : List ℕ
  pub is_text : text ≡ done ++ (piece ++ rest)
  pub some : 0 < length piece
  pub calls : ℕ
  pub cut_at : K
  pub turns : WritesTaken writes calls done first cut_at
  pub failed : writes cut_at piece 0 last

-- the whole text was appended to what the sink had; or, if the sink failed, a beginning of it, and
-- the write that failed is the last
pub record Says {K F : Type 0} (written : K → Option (List ℕ)) (writes : K → List ℕ → ℕ → K → Type 0) (faults : K → ℕ) (text : List ℕ) (result : Result (Unit {0}) F) (before now : K) : Type 0 where
  pub whole : OnOk result (written now ≡ appended (written before) text)
  pub begun : IsBegun text (written before) (written now)
  pub writes_whole : OnOk result (WritesWhole writes text before now)
  pub writes_until : OnErr result (WritesUntilFault writes text before now)
  pub later : faults before ≤ faults now
  pub failed : OnErr result (Rose (faults before) (faults now))

-- the text was said, whole or up to a fault of the sink
pub record IsSaid {E : Type 0} (written : E → Option (List ℕ)) (writes : E → List ℕ → ℕ → E → Type 0) (faults : E → ℕ) (text : List ℕ) (before now : E) : Type 0 where
  pub answer : Result (Unit {0}) SinkFailed
  pub says : Says {F = SinkFailed} written writes faults text answer before now
