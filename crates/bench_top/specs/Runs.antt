-- What a run makes of a shelf and a sink, as one fact: `run`, `run_ending` and the front cite it.
-- Stated by: bench_top. Used by: front_top.
use Rattle.std.specs.Prelude.{◌≡◌, ◌⊎◌, ◌↔◌, ℕ, List, Bool, IsTrue, is_some, Option, Some, None}
use Rattle.outside.specs.declared.explain.FailureReason.{FailureReason}
use Rattle.outside.specs.Common.{Rose, Answer, NamedFile, ReadsFirst, ReadsInTurn}
use Rattle.bench_reports.specs.from_bench_tasks.Common.{Command, Task, All, Bad, Absent, loaded, file_names, files_in, names_in, names_until}
use Rattle.bench_reports.specs.from_bench_tasks.declared.stop.LoadStop.{LoadStop}
use Rattle.refusals.specs.declared.refusal.Refusal.{Refusal}
use Rattle.bench_reports.specs.from_bench_outcomes.Common.{CommandGives, MayRefuse, Appended, CutShort, IsPlaced, IsReported, IsSettled, Succeeds, is_negative}
use Rattle.bench_reports.specs.from_bench_outcomes.declared.status.Status.{Status}
use Rattle.bench_reports.specs.from_bench_outcomes.declared.status.Status.TheVariants as status
use Rattle.bench_top.specs.Calm.{HasRead, IsCalm}
use Rattle.bench_top.specs.Endings.{Carries, CarriesGraph, CarriesRead, IsStopOf, ReportedBad, ReportedRefusal, StopsAfter, Unread}
use Rattle.bench_top.specs.Given.{GivenOutcome}
use Rattle.bench_top.specs.Writes.{GivesTold, WritesAs}

-- a run of this row of the table of words, none if the words match no row, ended with this status.
-- It led from the first shelf to the last, and from the sink before to the sink now; the functions
-- are those that tell of a shelf and of a sink
pub record Runs {S K : Type 0} (holds : S → Option (List NamedFile)) (is_steady : S → Bool) (faults : S → ℕ) (reads : S → List ℕ → Answer → S → Type 0)
    (written : K → Option (List ℕ)) (writes : K → List ℕ → ℕ → K → Type 0) (sink_faults : K → ℕ) (row : Option Command) (ended : Status) (first last : S) (before now : K) : Type 0 where
  -- the status is Usage exactly if the words match no row, and then nothing is read
  pub usage : (ended ≡ status.Usage) ↔ (row ≡ None)
  pub unread : ended ≡ status.Usage → last ≡ first
  -- some commands never refuse
  pub negative : ended ≡ status.Negative → MayRefuse row
  -- a fault of the outside comes only where its count rose in this run
  pub read_fault : ended ≡ status.ReadFault → Rose (faults first) (faults last)
  pub write_fault : ended ≡ status.WriteFault → Rose (sink_faults before) (sink_faults now)
  -- nothing is written before the whole report is made
  pub nothing : (ended ≡ status.Usage) ⊎ ((ended ≡ status.ReadFault) ⊎ (ended ≡ status.Memory)) → now ≡ before
  -- the reads are those of the first few names of files in the words, in their order
  pub asks : ReadsFirst reads (names_in row) first last
  -- they are those of all names if good files were reported on
  pub asks_all : IsSettled ended → ReadsInTurn reads (names_in row) first last
  -- if the files are known, they are those of the names up to the first file that is not held or
  -- bad
  pub asks_until : (files : List NamedFile) (command : Command) → holds first ≡ Some files → row ≡ Some command
      → HasRead (is_steady first) ended → ReadsInTurn reads (names_until (loaded files command) (file_names command)) first last
  -- they change no file, and a steady shelf stays so
  pub same_files : holds last ≡ holds first
  pub as_steady : is_steady last ≡ is_steady first
  -- what was written is the output that the command and the files stand for
  pub outcome : (files : List NamedFile) → holds first ≡ Some files → IsReported ended
      → Appended (CommandGives files row) ended (written before) (written now)
  -- or a proper prefix of it, if writing failed
  pub cut : (files : List NamedFile) → holds first ≡ Some files → ended ≡ status.WriteFault
      → CutShort (CommandGives files row) (written before) (written now)
  -- the writes are those of that output, each of what is left of it, up to the end or to one that
  -- failed: no write follows it, and if nothing is reported there is no write
  pub writes_made : WritesAs written writes (GivesTold (holds first) (λ files. CommandGives files row)) ended before now
  -- whatever the shelf does, its reads gave files, and what was written is an outcome of these
  pub answered : GivenOutcome reads written writes row ended first last before now
  -- over a steady shelf a read fails only if a named file is not held, and all before it are good
  pub missing : (files : List NamedFile) (command : Command) → holds first ≡ Some files → row ≡ Some command
      → ended ≡ status.ReadFault → IsTrue (is_steady first) → (file : ℕ) × (loaded files command ≡ Absent file)
  -- a file that is not held decides the status, if memory lasts
  pub absent : (files : List NamedFile) (command : Command) (file : ℕ) → holds first ≡ Some files → row ≡ Some command
      → loaded files command ≡ Absent file → (ended ≡ status.ReadFault) ⊎ (ended ≡ status.Memory)
  -- so does a bad file, if the outside does not fail
  pub bad : (files : List NamedFile) (command : Command) (file line kind : ℕ) → holds first ≡ Some files → row ≡ Some command
      → loaded files command ≡ Bad file line kind → IsCalm (is_steady first) (faults first) (faults last) (sink_faults before) (sink_faults now)
      → (ended ≡ status.BadInput) ⊎ (ended ≡ status.Memory)
  -- good files are reported on, if the outside does not fail
  pub good : (files : List NamedFile) (command : Command) (task : Task) → holds first ≡ Some files → row ≡ Some command
      → loaded files command ≡ All task → IsCalm (is_steady first) (faults first) (faults last) (sink_faults before) (sink_faults now)
      → IsSettled ended ⊎ (ended ≡ status.Memory)
  -- and the run is done if the task succeeds
  pub succeeds : (files : List NamedFile) (command : Command) (task : Task) → holds first ≡ Some files → row ≡ Some command
      → loaded files command ≡ All task → Succeeds task
      → IsCalm (is_steady first) (faults first) (faults last) (sink_faults before) (sink_faults now)
      → (ended ≡ status.Done) ⊎ (ended ≡ status.Memory)

-- the same, and this stopped the run, if it was stopped, and this is why its input was refused, if
-- it was refused
pub record RunsTo {S K : Type 0} (holds : S → Option (List NamedFile)) (is_steady : S → Bool) (faults : S → ℕ) (reads : S → List ℕ → Answer → S → Type 0) (reason : S → Option FailureReason)
    (written : K → Option (List ℕ)) (writes : K → List ℕ → ℕ → K → Type 0) (sink_faults : K → ℕ) (row : Option Command) (ended : Status) (stopped : Option LoadStop) (refused : Option Refusal)
    (first last : S) (before now : K) : Type 0 where
  pub runs : Runs holds is_steady faults reads written writes sink_faults row ended first last before now
  -- the stop is what the files hold, if they are known
  pub stops : (files : List NamedFile) (command : Command) → holds first ≡ Some files → row ≡ Some command
      → IsStopOf (is_steady first) stopped (loaded files command)
  -- the files up to that of the stop are those that were read
  pub stops_after : StopsAfter reads (names_in row) stopped first last
  -- it carries the file at its place among those of the words, and why that could not be read, or
  -- the bytes that its read returned and the sizes of the graph that it is for
  pub carries : Carries (files_in row) (reason last) stopped
  pub carries_bytes : CarriesRead reads (names_in row) stopped first last
  pub carries_graph : CarriesGraph reads (names_in row) stopped first
  -- a bad file is the one that the written line reports, and a failed read has its file
  pub reported : ended ≡ status.BadInput → ReportedBad stopped (written before) (written now)
  pub unread_file : ended ≡ status.ReadFault → Unread stopped
  -- there is a refusal exactly if the status is Negative, and it is the one that the written line
  -- reports
  pub is_refused : is_some refused ≡ is_negative ended
  pub reported_refusal : ended ≡ status.Negative → ReportedRefusal refused (written before) (written now)
  -- if the files are known, the place that the refusal names is that of the fault in what they hold
  pub placed : (files : List NamedFile) (command : Command) (task : Task) → holds first ≡ Some files → row ≡ Some command
      → loaded files command ≡ All task → IsPlaced task refused
