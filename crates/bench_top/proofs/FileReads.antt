-- What is read of a file that is held and within the limit of bytes is what its text is read as.
-- Each lemma looks the file up, leaves the test of its length after, and computes.
use Rattle.move_text.proofs.from_counting.Common.{◌≡◌, ℕ, ◌≤◌, List, length, Ok, Result, false, ap, ◌∙◌, arith, Some, Option, Bool, cond, nat_lt, nat_tests}
use Rattle.graph_core.specs.from_line_text.Common.{kind_number}
use Rattle.graph_core.specs.from_line_text.declared.faults.FaultKind.{FaultKind}
use Rattle.graph_core.specs.from_line_text.declared.faults.FaultKind.TheVariants.{Limit}
use Rattle.outside.specs.Common.{most_bytes}
use Rattle.bench_reports.specs.from_bench_tasks.Common.{Loaded, All, Bad, file_read, from_reading}

-- within the limit of bytes the text is read
file_read-within : {A : Type 0} (place : ℕ) (reading : List ℕ → Result A (ℕ × FaultKind)) (file : Option (List ℕ)) (bytes : List ℕ) → file ≡ Some bytes → length bytes ≤ most_bytes → file_read place reading file ≡ from_reading place (reading bytes)
file_read-within {A} place reading file bytes held within = ap (file_read place reading) held ∙ go (nat_lt most_bytes (length bytes)) (grind (arith, nat_tests, within))
  where
    long : Loaded A
    long = Bad place 0 (kind_number Limit)

    go : (b : Bool) → b ≡ false → cond b long (from_reading place (reading bytes)) ≡ from_reading place (reading bytes)
    go b e = ap (λ (t : Bool). cond t long (from_reading place (reading bytes))) e

-- a text that is read as a value
pub file_read-value : {A : Type 0} (place : ℕ) (reading : List ℕ → Result A (ℕ × FaultKind)) (file : Option (List ℕ)) (bytes : List ℕ) (value : A) → file ≡ Some bytes → length bytes ≤ most_bytes → reading bytes ≡ Ok value → file_read place reading file ≡ All value
file_read-value place reading file bytes value held within read = file_read-within place reading file bytes held within ∙ ap (from_reading place) read
