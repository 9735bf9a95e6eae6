-- What a shelf makes known of its files, and what reads of it returned.
-- Stated by: outside, bench_tasks, bench_top, theorems. Used by: bench_outcomes, front_top.
use Rattle.std.specs.Prelude.{◌≡◌, ℕ, ◌<◌, ◌≤◌, List, [], ◌∷◌, length, take, if◌then◌else◌, Option, Some, None, Result, Ok, Err, bytes_eq}
use Rattle.std.specs.Global.{Vec}
use Rattle.outside.specs.declared.shelf.ShelfFault.{ShelfFault}

-- a file: its name and its bytes
abbrev pub NamedFile : Type 0
NamedFile = List ℕ × List ℕ

-- the bytes of the first file of that name; none if there is no such file
abbrev pub file_named : List ℕ → List NamedFile → Option (List ℕ)
file_named name [] = None
file_named name (file ∷ files) = if bytes_eq file.0 name then Some file.1 else file_named name files

-- there is a file of that name, and it has more bytes than the limit
abbrev pub HoldsLonger : List NamedFile → List ℕ → ℕ → Type 0
HoldsLonger files name limit = (bytes : List ℕ) × (file_named name files ≡ Some bytes) × (limit < length bytes)

-- what a read returned: the bytes of the file, or why there are none
abbrev pub Answer : Type 0
Answer = Result (List ℕ) ShelfFault

-- the result as contracts see it
abbrev pub answer_seen : Result (Vec ℕ) ShelfFault → Answer
answer_seen (Ok bytes) = Ok bytes.items
answer_seen (Err fault) = Err fault

-- the bytes that a read returned, if it returned any
abbrev pub bytes_in : Answer → Option (List ℕ)
bytes_in (Ok bytes) = Some bytes
bytes_in (Err fault) = None

-- reads of the first of these names had these results, one after another, and lead from the first
-- shelf to the last
abbrev pub AnswersInTurn : {S : Type 0} → (S → List ℕ → Answer → S → Type 0) → List (List ℕ) → List Answer → S → S → Type 0
AnswersInTurn reads names [] first last = last ≡ first
AnswersInTurn reads [] (answer ∷ answers) first last = ⊥
AnswersInTurn {S} reads (name ∷ names) (answer ∷ answers) first last = (next : S) × (reads first name answer next × AnswersInTurn reads names answers next last)

-- reads of these names, one after another, whatever their results, lead from the first shelf to the
-- last
abbrev pub ReadsInTurn : {S : Type 0} → (S → List ℕ → Answer → S → Type 0) → List (List ℕ) → S → S → Type 0
ReadsInTurn reads [] first last = last ≡ first
ReadsInTurn {S} reads (name ∷ names) first last = (answer : Answer) × (next : S) × (reads first name answer next × ReadsInTurn reads names next last)

-- reads of an initial segment of these names do
abbrev pub ReadsFirst : {S : Type 0} → (S → List ℕ → Answer → S → Type 0) → List (List ℕ) → S → S → Type 0
ReadsFirst reads names first last = (count : ℕ) × ((count ≤ length names) × ReadsInTurn reads (take count names) first last)

-- if the files are known, this is the file of that name, or none
abbrev pub TellsFile : Option (List NamedFile) → List ℕ → Option (List ℕ) → Type 0
TellsFile None name file = Unit {0}
TellsFile (Some files) name file = file_named name files ≡ file

-- if the files are known, the one of that name is longer than the limit; if not, more bytes than
-- the limit were taken
abbrev pub IsLonger : Option (List NamedFile) → List ℕ → ℕ → ℕ → Type 0
IsLonger None name limit taken = limit < taken
IsLonger (Some files) name limit taken = HoldsLonger files name limit
