-- Which status and which output a list stands for.
-- Stated by: mcg6_top, theorems.
use Rattle.std.specs.Prelude.{◌≡◌, ◌⊎◌, ℕ, List, [], ◌∷◌, Option}
use Rattle.mcg6_lines.specs.declared.query.Query.{Query}
use Rattle.mcg6_reader.specs.declared.ending.BadLine.{BadLine}
use Rattle.line_text.specs.declared.faults.FaultKind.{FaultKind}
use Rattle.mcg6_reader.specs.declared.ending.InputEnding.{InputEnding}
use Rattle.mcg6_reader.specs.declared.ending.InputEnding.TheVariants as ending
use Rattle.mcg6_reader.specs.declared.place.LinePlace.{LinePlace}
use Rattle.mcg6_reader.specs.Common.{lines_of, AllTold, BeginningTold, Reported, Reports, WholeTold, ToldToBad, CutShort, Appended, GivesOutput, IsKnownLeft, ReadsGave, first_place, IsStream}
use Rattle.mcg6_top.specs.Listings.{IsBadLine, TellsLineOf, TellsOrSkips, ListStopsAt, SkipsLine, lacks_of}
use Rattle.mcg6_top.specs.Statuses.{status_after}
use Rattle.mcg6_top.specs.declared.command.AtBadLine.{AtBadLine}
use Rattle.mcg6_top.specs.declared.command.AtBadLine.TheVariants.{Stop}
use Rattle.mcg6_top.specs.declared.status.ListStatus.{ListStatus}
use Rattle.mcg6_top.specs.declared.status.ListStatus.TheVariants.{Done, Usage, ReadFault, BadInput, WriteFault, Memory}

-- what is written of a list of these bytes up to an ending: of each line what is asked of its
-- graph, in order; of bad lines nothing, if the list goes on after them
abbrev pub EndsWith : Query → AtBadLine → (bytes : List ℕ) → InputEnding → (output : List ℕ) → Type 0
EndsWith query at_bad bytes ending output =
    GivesOutput (TellsOrSkips query at_bad) (ListStopsAt query at_bad) (lacks_of query) first_place (lines_of bytes) ending output

-- the reports on the bad lines of the list that were skipped up to an ending, in order
abbrev pub SkipsUpTo : Query → AtBadLine → (bytes : List ℕ) → InputEnding → (skipped : List BadLine) → Type 0
SkipsUpTo query at_bad bytes ending skipped =
    Reported (Reports (SkipsLine query at_bad)) (ListStopsAt query at_bad) (lacks_of query) first_place (lines_of bytes) ending skipped

-- the lines before the bad one at which the list ends are answered, and nothing of that one
pub record StopsAtBad (query : Query) (at_bad : AtBadLine) (bytes output : List ℕ) : Type 0 where
  pub found : BadLine
  pub told : ToldToBad (TellsOrSkips query at_bad) (ListStopsAt query at_bad) (lacks_of query) first_place (lines_of bytes) found output

-- all lines are answered but the bad ones, which are skipped: there is one, and these are the
-- reports on them
pub record HasSkipped (query : Query) (at_bad : AtBadLine) (bytes output : List ℕ) : Type 0 where
  pub told : WholeTold (TellsOrSkips query at_bad) (lacks_of query) first_place (lines_of bytes) output
  pub first : BadLine
  pub others : List BadLine
  pub skipped : AllTold (Reports (SkipsLine query at_bad)) first_place (lines_of bytes) (first ∷ others)

-- what is written of a list of these bytes up to a status: if all is done, no line is bad
abbrev pub ListOutcome : Query → AtBadLine → (bytes : List ℕ) → ListStatus → (output : List ℕ) → Type 0
ListOutcome query at_bad bytes Done output = WholeTold (TellsLineOf query) (lacks_of query) first_place (lines_of bytes) output
ListOutcome query at_bad bytes Usage output = ⊥
ListOutcome query at_bad bytes ReadFault output = BeginningTold (TellsOrSkips query at_bad) first_place (lines_of bytes) output
ListOutcome query at_bad bytes BadInput output = StopsAtBad query at_bad bytes output ⊎ HasSkipped query at_bad bytes output
ListOutcome query at_bad bytes WriteFault output = CutShort (TellsOrSkips query at_bad) first_place (lines_of bytes) output
ListOutcome query at_bad bytes Memory output = BeginningTold (TellsOrSkips query at_bad) first_place (lines_of bytes) output

-- what was written is an outcome of some list: of the bytes that were left of the source, if
-- it makes them known
pub record TellsSome (query : Query) (at_bad : AtBadLine) (status : ListStatus) (left before now : Option (List ℕ)) : Type 0 where
  pub bytes : List ℕ
  pub is_left : IsKnownLeft left bytes
  pub outcome : Appended (ListOutcome query at_bad bytes status) before now

-- the reads of the source returned these bytes, and what was written is their outcome as a list
pub record OutcomeOfRead {S : Type 0} (query : Query) (at_bad : AtBadLine) (reads : S → Option (List ℕ) → S → Type 0) (status : ListStatus) (first last : S) (before now : Option (List ℕ)) : Type 0 where
  pub bytes : List ℕ
  pub count : ℕ
  pub gave : ReadsGave reads count bytes first last
  pub outcome : Appended (ListOutcome query at_bad bytes status) before now

-- the list was answered while it was read, up to this ending
abbrev pub StreamsTo :
    {S K : Type 0} → Query → AtBadLine → (S → Option (List ℕ) → S → Type 0) → (K → Option (List ℕ)) → (K → List ℕ → ℕ → K → Type 0) → InputEnding →
    S → K → S → K → Type 0
StreamsTo query at_bad reads written writes ending source sink last_source last_sink =
    IsStream (TellsOrSkips query at_bad) (ListStopsAt query at_bad) (lacks_of query) reads written writes ending source sink last_source last_sink

-- the list was answered while it was read, up to an ending with this status
pub record Streams {S K : Type 0} (query : Query) (at_bad : AtBadLine) (reads : S → Option (List ℕ) → S → Type 0) (written : K → Option (List ℕ)) (writes : K → List ℕ → ℕ → K → Type 0) (status : ListStatus) (source : S) (sink : K) (last_source : S) (last_sink : K) : Type 0 where
  pub ending : InputEnding
  pub skipped : List BadLine
  pub of_status : status ≡ status_after ending skipped
  pub none_skipped : at_bad ≡ Stop → skipped ≡ []
  pub stream : StreamsTo query at_bad reads written writes ending source sink last_source last_sink

-- the bytes of a list settle that it ends so: nothing of the outside does
abbrev pub IsSettledEnding : InputEnding → Type 0
IsSettledEnding ending.Done = Unit {0}
IsSettledEnding (ending.Bad found) = Unit {0}
IsSettledEnding ending.ReadFault = ⊥
IsSettledEnding ending.WriteFault = ⊥
IsSettledEnding ending.Memory = ⊥

-- each line has an output, or is bad with a first error of some kind
abbrev pub HasAnswer : Query → Type 0
HasAnswer query =
    (place : LinePlace) (line : List ℕ) →
    ((output : List ℕ) × TellsLineOf query place line output) ⊎ ((kind : FaultKind) × IsBadLine query place line kind)

-- the list has an end that its bytes settle, with an output and with reports on its bad lines
pub record HasSettledEnd (query : Query) (at_bad : AtBadLine) (bytes : List ℕ) : Type 0 where
  pub ending : InputEnding
  pub skipped : List BadLine
  pub output : List ℕ
  pub settled : IsSettledEnding ending
  pub gives : EndsWith query at_bad bytes ending output
  pub skips : SkipsUpTo query at_bad bytes ending skipped

-- the list has an outcome that its bytes settle
pub record HasListOutcome (query : Query) (at_bad : AtBadLine) (bytes : List ℕ) : Type 0 where
  pub status : ListStatus
  pub output : List ℕ
  pub settled : (status ≡ Done) ⊎ (status ≡ BadInput)
  pub outcome : ListOutcome query at_bad bytes status output
