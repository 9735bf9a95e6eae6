-- How a list is processed while it is read: after each read, all lines that are complete in what
-- was read are processed and written before the next read.
-- Stated by: mcg6_reader. Used by: mcg6_top.
use Rattle.std.specs.Prelude.{◌≡◌, ◌⊎◌, ℕ, zero, suc, List, [], ◌∷◌, ◌++◌, Option, Some, None}
use Rattle.outside.specs.Common.{IsWritten}
use Rattle.line_text.specs.declared.faults.FaultKind.{FaultKind}
use Rattle.mcg6_reader.specs.declared.ending.InputEnding.{InputEnding}
use Rattle.mcg6_reader.specs.declared.ending.InputEnding.TheVariants.{ReadFault, Memory}
use Rattle.mcg6_reader.specs.declared.place.LinePlace.{LinePlace}
use Rattle.mcg6_reader.specs.Endings.{GivesOutput, WholeLinesTold, WroteUpTo}
use Rattle.mcg6_reader.specs.Lines.{lines_of}
use Rattle.mcg6_reader.specs.Places.{first_place}

-- the progress on a list: what was read of it, what was written, and the source and the sink then
pub record Stage (S K : Type 0) : Type 0 where
  pub read : List ℕ
  pub output : List ℕ
  pub source : S
  pub sink : K

-- one read returned a piece, and then the lines that it completed were processed and written: so
-- each complete line of what was read is, and no part of a line is held that is too long for a line
pub record Step {S K : Type 0} (tells : LinePlace → List ℕ → List ℕ → Type 0) (reads : S → Option (List ℕ) → S → Type 0) (writes : K → List ℕ → ℕ → K → Type 0) (before now : Stage S K) : Type 0 where
  pub piece : List ℕ
  pub more : List ℕ
  pub reading : reads before.source (Some piece) now.source
  pub read : now.read ≡ before.read ++ piece
  pub writing : IsWritten writes more before.sink now.sink
  pub output : now.output ≡ before.output ++ more
  pub told : WholeLinesTold tells now.read now.output

-- so many steps lead from the first stage to the last
abbrev pub Steps :
    {S K : Type 0} → (LinePlace → List ℕ → List ℕ → Type 0) → (S → Option (List ℕ) → S → Type 0) → (K → List ℕ → ℕ → K → Type 0) → ℕ →
    (first last : Stage S K) → Type 0
Steps tells reads writes zero first last = last ≡ first
Steps {S} {K} tells reads writes (suc count) first last =
    (next : Stage S K) × (Step tells reads writes first next × Steps tells reads writes count next last)

-- what may follow a piece that was read: nothing if the read returned nothing, since the list has
-- then ended
abbrev pub MayFollow : (piece rest : List ℕ) → Type 0
MayFollow [] rest = rest ≡ []
MayFollow (byte ∷ piece) rest = Unit {0}

-- what was written before and then is the output of the lines of the list up to an ending, whatever
-- may follow the piece
abbrev pub GivesAfter :
    (LinePlace → List ℕ → List ℕ → Type 0) → (LinePlace → List ℕ → FaultKind → Type 0) → (ℕ → Option FaultKind) → (read piece before : List ℕ) →
    InputEnding → List ℕ → Type 0
GivesAfter tells bad lacks read piece before ending more =
    (rest : List ℕ) → MayFollow piece rest → GivesOutput tells bad lacks first_place (lines_of ((read ++ piece) ++ rest)) ending (before ++ more)

-- one read returned a piece, and the processing ended: what was written up to the ending is the
-- output of the lines of the list, whatever may follow the piece
pub record EndsAfter {S K : Type 0} (tells : LinePlace → List ℕ → List ℕ → Type 0) (bad : LinePlace → List ℕ → FaultKind → Type 0) (lacks : ℕ → Option FaultKind) (reads : S → Option (List ℕ) → S → Type 0) (written : K → Option (List ℕ)) (writes : K → List ℕ → ℕ → K → Type 0) (ending : InputEnding) (before : Stage S K) (source : S) (sink : K) : Type 0 where
  pub piece : List ℕ
  pub reading : reads before.source (Some piece) source
  pub writing : WroteUpTo written writes (GivesAfter tells bad lacks before.read piece before.output) ending before.sink sink

-- the processing ended without a further read: memory ran out
pub record EndsUnread {S K : Type 0} (ending : InputEnding) (before : Stage S K) (source : S) (sink : K) : Type 0 where
  pub memory : ending ≡ Memory
  pub same_source : source ≡ before.source
  pub same_sink : sink ≡ before.sink

-- the processing ended with a read that failed: nothing was written after it
pub record EndsTorn {S K : Type 0} (reads : S → Option (List ℕ) → S → Type 0) (ending : InputEnding) (before : Stage S K) (source : S) (sink : K) : Type 0 where
  pub fault : ending ≡ ReadFault
  pub reading : reads before.source None source
  pub same_sink : sink ≡ before.sink

-- how the processing ends
abbrev pub Ends :
    {S K : Type 0} → (LinePlace → List ℕ → List ℕ → Type 0) → (LinePlace → List ℕ → FaultKind → Type 0) → (ℕ → Option FaultKind) →
    (S → Option (List ℕ) → S → Type 0) → (K → Option (List ℕ)) → (K → List ℕ → ℕ → K → Type 0) → InputEnding → Stage S K → S → K → Type 0
Ends tells bad lacks reads written writes ending before source sink =
    EndsAfter tells bad lacks reads written writes ending before source sink ⊎
    (EndsTorn reads ending before source sink ⊎ EndsUnread ending before source sink)

-- the list of a source was processed to a sink: so many reads and what was written after each, and
-- then how it ended
pub record IsStream {S K : Type 0} (tells : LinePlace → List ℕ → List ℕ → Type 0) (bad : LinePlace → List ℕ → FaultKind → Type 0) (lacks : ℕ → Option FaultKind) (reads : S → Option (List ℕ) → S → Type 0) (written : K → Option (List ℕ)) (writes : K → List ℕ → ℕ → K → Type 0) (ending : InputEnding) (source : S) (sink : K) (last_source : S) (last_sink : K) : Type 0 where
  pub count : ℕ
  pub last : Stage S K
  pub steps : Steps tells reads writes count (record { read = []; output = []; source = source; sink = sink }) last
  pub ends : Ends tells bad lacks reads written writes ending last last_source last_sink
