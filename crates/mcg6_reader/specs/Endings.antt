-- What was written up to each ending.
-- Stated by: mcg6_reader, mcg6_encoder. Used by: mcg6_top.
use Rattle.std.specs.Prelude.{◌≡◌, ℕ, ◌≤◌, List, ◌++◌, length, take, Option, Some, None}
use Rattle.outside.specs.Common.{appended, IsWritten, IsCutOff, prepended, most_line}
use Rattle.line_text.specs.declared.faults.FaultKind.{FaultKind}
use Rattle.mcg6_reader.specs.declared.ending.InputEnding.{InputEnding}
use Rattle.mcg6_reader.specs.declared.ending.InputEnding.TheVariants.{Done, Bad, ReadFault, WriteFault, Memory}
use Rattle.mcg6_reader.specs.declared.ending.BadLine.{BadLine}
use Rattle.mcg6_reader.specs.declared.ending.ListStop.{ListStop}
use Rattle.mcg6_reader.specs.declared.ending.ListStop.TheVariants as stop
use Rattle.mcg6_reader.specs.declared.place.LinePlace.{LinePlace}
use Rattle.mcg6_reader.specs.Lines.{lines_of, HasNoFeed, IsClosedText}
use Rattle.mcg6_reader.specs.Lists.{AllTold, BeginningTold, WholeTold, ToldToBad, CutShort}
use Rattle.mcg6_reader.specs.Places.{first_place, place_behind}

-- the output of lines up to an ending, where the first line is at that place
abbrev pub GivesOutput :
    {A : Type 0} → (LinePlace → List ℕ → List A → Type 0) → (LinePlace → List ℕ → FaultKind → Type 0) → (ℕ → Option FaultKind) → LinePlace → List (List ℕ) → InputEnding →
    List A → Type 0
GivesOutput tells bad lacks place lines Done output = WholeTold tells lacks place lines output
GivesOutput tells bad lacks place lines (Bad found) output = ToldToBad tells bad lacks place lines found output
GivesOutput tells bad lacks place lines ReadFault output = BeginningTold tells place lines output
GivesOutput tells bad lacks place lines WriteFault output = CutShort tells place lines output
GivesOutput tells bad lacks place lines Memory output = BeginningTold tells place lines output

-- the reports on the skipped lines of a list up to an ending, where the first line is at that
-- place: on all of them, or on those before the bad line at which it ended, and else on those of an
-- initial segment
abbrev pub Reported :
    (LinePlace → List ℕ → List BadLine → Type 0) → (LinePlace → List ℕ → FaultKind → Type 0) → (ℕ → Option FaultKind) → LinePlace →
    List (List ℕ) → InputEnding → List BadLine → Type 0
Reported reports bad lacks place lines Done founds = AllTold reports place lines founds
Reported reports bad lacks place lines (Bad found) founds = ToldToBad reports bad lacks place lines found founds
Reported reports bad lacks place lines ReadFault founds = BeginningTold reports place lines founds
Reported reports bad lacks place lines WriteFault founds = BeginningTold reports place lines founds
Reported reports bad lacks place lines Memory founds = BeginningTold reports place lines founds

-- whatever follows the text, these are the reports on the skipped lines of it up to the ending
abbrev pub ReportsWith :
    (LinePlace → List ℕ → List BadLine → Type 0) → (LinePlace → List ℕ → FaultKind → Type 0) → (ℕ → Option FaultKind) → LinePlace →
    (text : List ℕ) → InputEnding → List BadLine → Type 0
ReportsWith reports bad lacks place text ending founds =
    (rest : List ℕ) → Reported reports bad lacks place (lines_of (text ++ rest)) ending founds

-- the ending for which the processing stops
abbrev pub ending_of : ListStop → InputEnding
ending_of (stop.Bad found) = Bad found
ending_of stop.Memory = Memory

-- bytes with this property were appended to what a sink had
pub record Appended (holds : List ℕ → Type 0) (before now : Option (List ℕ)) : Type 0 where
  pub output : List ℕ
  pub right : holds output
  pub written : now ≡ appended before output

-- a list with this property was appended to another
pub record Added {A : Type 0} (holds : List A → Type 0) (before now : List A) : Type 0 where
  pub more : List A
  pub right : holds more
  pub output : now ≡ before ++ more

-- each complete line of what was read has been processed, and the part of a line after them is not
-- too long for a line
pub record WholeLinesTold (tells : LinePlace → List ℕ → List ℕ → Type 0) (read output : List ℕ) : Type 0 where
  pub whole : List ℕ
  pub part : List ℕ
  pub cut : read ≡ whole ++ part
  pub closed : IsClosedText whole
  pub no_feed : HasNoFeed part
  pub short : length part ≤ most_line
  pub told : AllTold tells first_place (lines_of whole) output

-- the lines of a text up to what is left of it have been processed; the first line is at the first
-- place, and the next one at the second
pub record ToldThrough {A : Type 0} (tells : LinePlace → List ℕ → List A → Type 0) (before : LinePlace) (text left : List ℕ) (now : LinePlace) (output : List A) : Type 0 where
  pub whole : List ℕ
  pub cut : text ≡ whole ++ left
  pub closed : IsClosedText whole
  pub told : AllTold tells before (lines_of whole) output
  pub place : now ≡ place_behind before (lines_of whole)

-- whatever follows the text, this is the output of its lines up to the ending, where the first line
-- is at that place
abbrev pub StopsWith :
    {A : Type 0} → (LinePlace → List ℕ → List A → Type 0) → (LinePlace → List ℕ → FaultKind → Type 0) → (ℕ → Option FaultKind) → LinePlace → (text : List ℕ) → InputEnding →
    List A → Type 0
StopsWith tells bad lacks place text ending output =
    (rest : List ℕ) → GivesOutput tells bad lacks place (lines_of (text ++ rest)) ending output

-- bytes with this property were written completely, and nothing else
pub record Wrote {K : Type 0} (written : K → Option (List ℕ)) (writes : K → List ℕ → ℕ → K → Type 0) (holds : List ℕ → Type 0) (first last : K) : Type 0 where
  pub output : List ℕ
  pub right : holds output
  pub now : written last ≡ appended (written first) output
  pub whole : IsWritten writes output first last

-- a prefix of bytes with this property was written, and then a write of the rest failed
pub record WroteCut {K : Type 0} (written : K → Option (List ℕ)) (writes : K → List ℕ → ℕ → K → Type 0) (holds : List ℕ → Type 0) (first last : K) : Type 0 where
  pub whole : List ℕ
  pub count : ℕ
  pub right : holds (take count whole)
  pub now : written last ≡ appended (written first) (take count whole)
  pub cut : IsCutOff writes whole count first last

-- what was written up to an ending, of which this is true: nothing if memory ran out, and nothing
-- after a write that failed
abbrev pub WroteUpTo :
    {K : Type 0} → (K → Option (List ℕ)) → (K → List ℕ → ℕ → K → Type 0) → (InputEnding → List ℕ → Type 0) → InputEnding → K → K → Type 0
WroteUpTo written writes gives Done first last = Wrote written writes (gives Done) first last
WroteUpTo written writes gives (Bad found) first last = Wrote written writes (gives (Bad found)) first last
WroteUpTo written writes gives ReadFault first last = ⊥
WroteUpTo written writes gives WriteFault first last = WroteCut written writes (gives WriteFault) first last
WroteUpTo written writes gives Memory first last = last ≡ first

-- if a source makes known what is left, it is these bytes
abbrev pub IsKnownLeft : Option (List ℕ) → List ℕ → Type 0
IsKnownLeft None bytes = Unit {0}
IsKnownLeft (Some left) bytes = left ≡ bytes

-- what was written up to the ending is the output of the lines of a list: of the bytes that were
-- left in the source, if it makes them known; and the reports that were added are those on its
-- skipped lines
pub record TellsList (tells : LinePlace → List ℕ → List ℕ → Type 0) (bad : LinePlace → List ℕ → FaultKind → Type 0) (lacks : ℕ → Option FaultKind) (reports : LinePlace → List ℕ → List BadLine → Type 0) (ending : InputEnding) (left before now : Option (List ℕ)) (founds_before founds_now : List BadLine) : Type 0 where
  pub bytes : List ℕ
  pub is_left : IsKnownLeft left bytes
  pub gives : Appended (GivesOutput tells bad lacks first_place (lines_of bytes) ending) before now
  pub reported : Added (Reported reports bad lacks first_place (lines_of bytes) ending) founds_before founds_now

-- what was read of a source up to what is left, and each complete line of it has been processed
pub record ReadsTold (tells : LinePlace → List ℕ → List ℕ → Type 0) (before now : Option (List ℕ)) (output : List ℕ) : Type 0 where
  pub read : List ℕ
  pub left : before ≡ prepended read now
  pub told : WholeLinesTold tells read output
