-- How a run ended: why its files were not loaded, which of them were read, what was written of a
-- bad one, and of a refusal.
-- Stated by: bench_top. Used by: front_top.
use Rattle.std.specs.Prelude.{◌≡◌, ◌≤◌, ◌<◌, ℕ, List, Bool, IsTrue, length, take, Option, Some, None, Result, Ok, Err}
use Rattle.outside.specs.Common.{Answer, AnswersInTurn, ReadsInTurn, appended}
use Rattle.outside.specs.declared.explain.FailureReason.{FailureReason}
use Rattle.graph_core.specs.from_line_text.Common.{kind_number}
use Rattle.graph_core.specs.from_line_text.declared.faults.FaultKind.{FaultKind}
use Rattle.mcg6_lines.specs.from_report_text.Common.{bad_input_text}
use Rattle.refusals.specs.declared.refusal.Refusal.{Refusal}
use Rattle.bench_reports.specs.from_bench_tasks.Common.{CarriesBytes, CarriesFile, CarriesFirstSizes, File, Loaded, Bad, Absent}
use Rattle.bench_reports.specs.from_bench_tasks.declared.stop.FaultyFile.{FaultyFile}
use Rattle.bench_reports.specs.from_bench_tasks.declared.stop.UnreadFile.{UnreadFile}
use Rattle.bench_reports.specs.from_bench_tasks.declared.stop.LoadStop.{LoadStop}
use Rattle.bench_reports.specs.from_bench_tasks.declared.stop.LoadStop.TheVariants as stop
use Rattle.bench_reports.specs.from_bench_outcomes.Common.{refusal_told}

-- why nothing was loaded, if nothing was
abbrev pub stop_in : {X : Type 0} → Result X LoadStop → Option LoadStop
stop_in (Ok x) = None
stop_in (Err stopped) = Some stopped

-- the stop is what the files hold: the first bad file, with its first fault; and over a steady
-- shelf the file that is not held
abbrev pub IsStopOf : {A : Type 0} → (steady : Bool) → Option LoadStop → Loaded A → Type 0
IsStopOf steady None loaded = Unit {0}
IsStopOf steady (Some (stop.Bad file line kind found)) loaded = loaded ≡ Bad file line (kind_number kind)
IsStopOf steady (Some (stop.ReadFault file unread)) loaded = IsTrue steady → loaded ≡ Absent file
IsStopOf steady (Some stop.Memory) loaded = Unit {0}

-- where the run stopped at a file, the reads are those of the names up to it, that one included
abbrev pub StopsAfter : {S : Type 0} → (S → List ℕ → Answer → S → Type 0) → List (List ℕ) → Option LoadStop → S → S → Type 0
StopsAfter reads names None first last = Unit {0}
StopsAfter reads names (Some (stop.Bad file line kind found)) first last = (0 < file) × (file ≤ length names) × ReadsInTurn reads (take file names) first last
StopsAfter reads names (Some (stop.ReadFault file unread)) first last = (0 < file) × (file ≤ length names) × ReadsInTurn reads (take file names) first last
StopsAfter reads names (Some stop.Memory) first last = Unit {0}

-- the stop carries the file at its place among these, and the reason that the shelf gave
abbrev pub Carries : List File → Option FailureReason → Option LoadStop → Type 0
Carries files reason None = Unit {0}
Carries files reason (Some stopped) = CarriesFile files reason stopped

-- the sizes that it carries are those of the graph that the first of these names gave
abbrev pub CarriesGraph : {S : Type 0} → (S → List ℕ → Answer → S → Type 0) → List (List ℕ) → Option LoadStop → (first : S) → Type 0
CarriesGraph reads names None first = Unit {0}
CarriesGraph reads names (Some stopped) first = CarriesFirstSizes reads names first stopped

-- a bad file is carried with the bytes that its read returned, the last of the reads of these names
pub record CarriesLast {S : Type 0} (reads : S → List ℕ → Answer → S → Type 0) (names : List (List ℕ)) (stopped : LoadStop) (first last : S) : Type 0 where
  pub answers : List Answer
  pub in_turn : AnswersInTurn reads names answers first last
  pub carries : CarriesBytes answers stopped

abbrev pub CarriesRead : {S : Type 0} → (S → List ℕ → Answer → S → Type 0) → List (List ℕ) → Option LoadStop → S → S → Type 0
CarriesRead reads names None first last = Unit {0}
CarriesRead reads names (Some stopped) first last = CarriesLast reads names stopped first last

-- the bytes are the report of a stop at a bad file
abbrev pub StopReported : LoadStop → List ℕ → Type 0
StopReported (stop.Bad file line kind found) bytes = bytes ≡ bad_input_text file line (kind_number kind)
StopReported (stop.ReadFault file unread) bytes = ⊥
StopReported stop.Memory bytes = ⊥

-- the same of what was loaded
abbrev pub ReportsBad : {X : Type 0} → Result X LoadStop → List ℕ → Type 0
ReportsBad (Ok x) bytes = ⊥
ReportsBad (Err stopped) bytes = StopReported stopped bytes

-- a bad file stopped the run, and the line that reports it was written
pub record ReportedBad (stopped : Option LoadStop) (before now : Option (List ℕ)) : Type 0 where
  pub file : ℕ
  pub line : ℕ
  pub kind : FaultKind
  pub found : FaultyFile
  pub is : stopped ≡ Some (stop.Bad file line kind found)
  pub written : now ≡ appended before (bad_input_text file line (kind_number kind))

-- a file that could not be read stopped the run
pub record Unread (stopped : Option LoadStop) : Type 0 where
  pub file : ℕ
  pub unread : UnreadFile
  pub is : stopped ≡ Some (stop.ReadFault file unread)

-- the input was refused, and the line that stands for the refusal was written
pub record ReportedRefusal (refused : Option Refusal) (before now : Option (List ℕ)) : Type 0 where
  pub refusal : Refusal
  pub is : refused ≡ Some refusal
  pub output : List ℕ
  pub tells : output ≡ refusal_told refusal output
  pub written : now ≡ appended before output
