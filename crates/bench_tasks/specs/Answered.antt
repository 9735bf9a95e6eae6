-- What the reads of a run answered, and which files they gave: each is named by its place among the
-- files of the command, counted from 1, since one name may be asked for twice and answered with
-- other bytes. So what is loaded of a shelf that tells no files is what these files hold.
-- Stated by: bench_tasks. Used by: bench_top.
use Rattle.std.specs.Prelude.{◌≡◌, ◌<◌, ℕ, ◌+◌, List, [], ◌∷◌, length, Option, Some, Result, Ok, Err, IfErr}
use Rattle.outside.specs.Common.{Answer, AnswersInTurn, NamedFile, file_named}
use Rattle.outside.specs.declared.shelf.ShelfFault.TheVariants.{Failed, TooLong, Memory}
use Rattle.bench_tasks.specs.Commands.{Command, OnGraph, OnSimpleGraph, OnTree, OnPicks, OnEars, OnMoves, OnTrees, OnNumbers}
use Rattle.bench_tasks.specs.Carried.{CarriesBytes}
use Rattle.bench_tasks.specs.Files.{file_names}
use Rattle.bench_tasks.specs.Loading.{Loaded, loaded, most_bytes}
use Rattle.bench_tasks.specs.Loads.{LoadsAs, task_of}
use Rattle.bench_tasks.specs.declared.stop.LoadStop.{LoadStop}
use Rattle.bench_tasks.specs.declared.stop.LoadStop.TheVariants as stop
use Rattle.bench_tasks.specs.declared.tasks.Task.TheVariants as code

-- the name of the file at that place
abbrev pub place_name : ℕ → List ℕ
place_name place = place ∷ []

-- the command with each of its files named by its place
abbrev pub by_place : Command → Command
by_place (OnGraph verb graph) = OnGraph verb (place_name 1)
by_place (OnSimpleGraph verb graph) = OnSimpleGraph verb (place_name 1)
by_place (OnTree verb graph tree) = OnTree verb (place_name 1) (place_name 2)
by_place (OnPicks verb graph picks) = OnPicks verb (place_name 1) (place_name 2)
by_place (OnEars verb graph ears) = OnEars verb (place_name 1) (place_name 2)
by_place (OnMoves verb graph tree moves) = OnMoves verb (place_name 1) (place_name 2) (place_name 3)
by_place (OnTrees verb graph first second) = OnTrees verb (place_name 1) (place_name 2) (place_name 3)
by_place (OnNumbers verb seed pieces) = OnNumbers verb seed pieces

-- the file is longer than the limit of bytes
abbrev pub IsTooLong : Option (List ℕ) → Type 0
IsTooLong file = (bytes : List ℕ) × (file ≡ Some bytes) × (most_bytes < length bytes)

-- the file may be the one that a read which answered so gave: it has these bytes, or is too long;
-- of a file that was not given nothing is known
abbrev pub GaveFile : Answer → Option (List ℕ) → Type 0
GaveFile (Ok bytes) file = file ≡ Some bytes
GaveFile (Err Failed) file = Unit {0}
GaveFile (Err TooLong) file = IsTooLong file
GaveFile (Err Memory) file = Unit {0}

-- the files at this place and the following ones may be those that reads which answered so gave
abbrev pub HoldGiven : List NamedFile → (place : ℕ) → List Answer → Type 0
HoldGiven files place [] = Unit {0}
HoldGiven files place (answer ∷ answers) = GaveFile answer (file_named (place_name place) files) × HoldGiven files (place + 1) answers

-- a value comes of answers for all names, and a stop at a file of the answers up to that file
abbrev pub CountsAs : {X : Type 0} → (names answers : ℕ) → Result X LoadStop → Type 0
CountsAs names answers (Ok x) = answers ≡ names
CountsAs names answers (Err (stop.ReadFault file unread)) = (0 < file) × (answers ≡ file)
CountsAs names answers (Err (stop.Bad file line kind found)) = (0 < file) × (answers ≡ file)
CountsAs names answers (Err stop.Memory) = Unit {0}

-- 1 if a read failed that answered so, and 0 if not
abbrev pub failures_in : Answer → ℕ
failures_in (Ok bytes) = 0
failures_in (Err Failed) = 1
failures_in (Err TooLong) = 0
failures_in (Err Memory) = 0

-- how many of the reads failed that answered so
abbrev pub failures_of : List Answer → ℕ
failures_of [] = 0
failures_of (answer ∷ answers) = failures_in answer + failures_of answers

-- the last of the reads failed, and no other
abbrev pub LastFailed : List Answer → Type 0
LastFailed [] = ⊥
LastFailed (answer ∷ []) = failures_in answer ≡ 1
LastFailed (answer ∷ next ∷ answers) = (failures_in answer ≡ 0) × LastFailed (next ∷ answers)

-- a read failed exactly if a failed read is the stop, and then it was the last: a read that failed
-- is neither a bad file nor want of memory
abbrev pub FailedAs : {X : Type 0} → List Answer → Result X LoadStop → Type 0
FailedAs answers (Ok x) = failures_of answers ≡ 0
FailedAs answers (Err (stop.ReadFault file unread)) = LastFailed answers
FailedAs answers (Err (stop.Bad file line kind found)) = failures_of answers ≡ 0
FailedAs answers (Err stop.Memory) = failures_of answers ≡ 0

-- one read, of that name, leads from the first shelf to the last, and what was loaded is what
-- the file at this place holds, if it may be the one that the read gave; a bad file is carried with
-- the bytes that the read returned
pub record ReadsOnce {S X A : Type 0} (reads : S → List ℕ → Answer → S → Type 0) (name : List ℕ) (place : ℕ) (view : X → A) (held : List NamedFile → Loaded A) (result : Result X LoadStop) (first last : S) : Type 0 where
  pub answer : Answer
  pub read : reads first name answer last
  pub failed : FailedAs (answer ∷ []) result
  pub carries : IfErr result (CarriesBytes (answer ∷ []))
  pub loads : (files : List NamedFile) → GaveFile answer (file_named (place_name place) files) → LoadsAs view result (held files)

-- reads of the first of these names, up to a stop, lead from the first shelf to the last, and
-- what was loaded is what all files hold that may be those that the reads gave; a bad file is
-- carried with the bytes that the last read returned
pub record LoadsAnswered {S X A : Type 0} (reads : S → List ℕ → Answer → S → Type 0) (names : List (List ℕ)) (view : X → A) (held : List NamedFile → Loaded A) (result : Result X LoadStop) (first last : S) : Type 0 where
  pub answers : List Answer
  pub in_turn : AnswersInTurn reads names answers first last
  pub counts : CountsAs (length names) (length answers) result
  pub failed : FailedAs answers result
  pub carries : IfErr result (CarriesBytes answers)
  pub loads : (files : List NamedFile) → HoldGiven files 1 answers → LoadsAs view result (held files)

-- the same of the files of a command
abbrev pub GathersAnswered : {S : Type 0} → (S → List ℕ → Answer → S → Type 0) → Command → Result code.the_data LoadStop → S → S → Type 0
GathersAnswered reads command result first last = LoadsAnswered reads (file_names command) task_of (λ files. loaded files (by_place command)) result first last
