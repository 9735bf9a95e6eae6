-- What the reads of a source returned, and what the lines of these bytes give.
-- Stated by: mcg6_reader. Used by: mcg6_encoder, mcg6_top.
use Rattle.std.specs.Prelude.{◌≡◌, ℕ, zero, suc, List, [], ◌++◌, Option}
use Rattle.outside.specs.Common.{bytes_given}
use Rattle.line_text.specs.declared.faults.FaultKind.{FaultKind}
use Rattle.mcg6_reader.specs.declared.ending.BadLine.{BadLine}
use Rattle.mcg6_reader.specs.declared.ending.InputEnding.{InputEnding}
use Rattle.mcg6_reader.specs.declared.place.LinePlace.{LinePlace}
use Rattle.mcg6_reader.specs.Endings.{Added, Appended, GivesOutput, Reported}
use Rattle.mcg6_reader.specs.Lines.{lines_of}
use Rattle.mcg6_reader.specs.Places.{first_place}

-- so many reads returned these bytes, one piece after another, and lead from the first source to
-- the last: a read that failed returned none
abbrev pub ReadsGave : {S : Type 0} → (S → Option (List ℕ) → S → Type 0) → ℕ → List ℕ → (first last : S) → Type 0
ReadsGave reads zero bytes first last = (bytes ≡ []) × (last ≡ first)
ReadsGave {S} reads (suc count) bytes first last =
    (before : List ℕ) × (piece : Option (List ℕ)) × (next : S) × (ReadsGave reads count before first next)
    × (bytes ≡ before ++ bytes_given piece) × (reads next piece last)

-- the reads of the source returned these bytes, and nothing else: what was written up to the ending
-- is the output of their lines, and the reports that were added are those on their skipped lines
pub record TellsRead {S : Type 0} (tells : LinePlace → List ℕ → List ℕ → Type 0) (bad : LinePlace → List ℕ → FaultKind → Type 0) (lacks : ℕ → Option FaultKind) (reports : LinePlace → List ℕ → List BadLine → Type 0) (reads : S → Option (List ℕ) → S → Type 0) (ending : InputEnding) (first last : S) (before now : Option (List ℕ)) (founds_before founds_now : List BadLine) : Type 0 where
  pub bytes : List ℕ
  pub count : ℕ
  pub gave : ReadsGave reads count bytes first last
  pub gives : Appended (GivesOutput tells bad lacks first_place (lines_of bytes) ending) before now
  pub reported : Added (Reported reports bad lacks first_place (lines_of bytes) ending) founds_before founds_now
