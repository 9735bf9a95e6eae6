-- Which files a run reads, and in which order.
-- Stated by: bench_tasks, bench_top. Used by: front_top.
use Rattle.std.specs.Prelude.{◌≡◌, ◌≤◌, ◌<◌, List, [], ℕ, Bool, IsTrue, length, take, Option, Some, None, Result, Ok, Err}
use Rattle.outside.specs.Common.{Answer, ReadsInTurn, ReadsFirst}
use Rattle.bench_tasks.specs.Commands.{Command}
use Rattle.bench_tasks.specs.Files.{File, file_names, files_of}
use Rattle.bench_tasks.specs.Loading.{Loaded, All, Bad, Absent}
use Rattle.bench_tasks.specs.declared.stop.LoadStop.{LoadStop}
use Rattle.bench_tasks.specs.declared.stop.LoadStop.TheVariants as stop

-- the names of the files of the command that the words ask for; they may match no row: then
-- there are none
abbrev pub names_in : Option Command → List (List ℕ)
names_in None = []
names_in (Some command) = file_names command

-- the files of the command, in the same way
abbrev pub files_in : Option Command → List File
files_in None = []
files_in (Some command) = files_of command

-- the names of these up to the first whose file is not held or is bad, that one included
abbrev pub names_until : {A : Type 0} → Loaded A → List (List ℕ) → List (List ℕ)
names_until (All value) names = names
names_until (Bad file line kind) names = take file names
names_until (Absent file) names = take file names

-- a stop at the file of this place; lack of memory may come at any
abbrev pub StopsAt : (place : ℕ) → LoadStop → Type 0
StopsAt place (stop.ReadFault file unread) = file ≡ place
StopsAt place (stop.Bad file line kind found) = file ≡ place
StopsAt place stop.Memory = Unit {0}

-- reads up to a stop lead from the first shelf to the last: those of the names up to the file
-- that stops, that one included; where memory ran out, those of the first few names
abbrev pub ReadsUntil : {S : Type 0} → (S → List ℕ → Answer → S → Type 0) → List (List ℕ) → LoadStop → S → S → Type 0
ReadsUntil reads names (stop.ReadFault file unread) first last = (0 < file) × (file ≤ length names) × ReadsInTurn reads (take file names) first last
ReadsUntil reads names (stop.Bad file line kind found) first last = (0 < file) × (file ≤ length names) × ReadsInTurn reads (take file names) first last
ReadsUntil reads names stop.Memory first last = ReadsFirst reads names first last

-- all names are read where there is an answer, and else those up to the stop
abbrev pub ReadsAs : {S X : Type 0} → (S → List ℕ → Answer → S → Type 0) → List (List ℕ) → Result X LoadStop → S → S → Type 0
ReadsAs reads names (Ok x) first last = ReadsInTurn reads names first last
ReadsAs reads names (Err stopped) first last = ReadsUntil reads names stopped first last

-- over a steady shelf a read fails at the file that is not held
abbrev pub FailsAs : {X A : Type 0} → (steady : Bool) → Result X LoadStop → Loaded A → Type 0
FailsAs steady (Ok x) loaded = Unit {0}
FailsAs steady (Err (stop.ReadFault file unread)) loaded = IsTrue steady → loaded ≡ Absent file
FailsAs steady (Err (stop.Bad file line kind found)) loaded = Unit {0}
FailsAs steady (Err stop.Memory) loaded = Unit {0}

-- the stop is a file that could not be read
abbrev pub IsUnread : LoadStop → Type 0
IsUnread (stop.ReadFault file unread) = Unit {0}
IsUnread (stop.Bad file line kind found) = ⊥
IsUnread stop.Memory = ⊥

-- a read of a file failed
abbrev pub IsReadFault : {X : Type 0} → Result X LoadStop → Type 0
IsReadFault (Ok x) = ⊥
IsReadFault (Err stopped) = IsUnread stopped

-- no file is missing: all are good, or one is bad
abbrev pub HasNoMissing : {X : Type 0} → Result X LoadStop → Type 0
HasNoMissing (Ok x) = Unit {0}
HasNoMissing (Err (stop.ReadFault file unread)) = ⊥
HasNoMissing (Err (stop.Bad file line kind found)) = Unit {0}
HasNoMissing (Err stop.Memory) = ⊥
