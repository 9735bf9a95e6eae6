-- What a run makes of a shelf that may tell nothing of its files: its reads gave some files, and
-- what it writes is an output that these files give.
-- Stated by: theorems. Used by: bench_top.
use Rattle.std.specs.Prelude.{◌≡◌, ◌<◌, ℕ, ◌+◌, List, [], ◌∷◌, length, Option, Ok, Err, option_map}
use Rattle.outside.specs.Common.{Answer, AnswersInTurn, NamedFile, most_bytes}
use Rattle.outside.specs.declared.shelf.ShelfFault.TheVariants.{Failed, TooLong, Memory}
use Rattle.bench_reports.specs.from_bench_tasks.Common.{by_place, failures_of, LastFailed, place_name, Command, names_in}
use Rattle.bench_reports.specs.from_bench_outcomes.Common.{CommandGives}
use Rattle.bench_reports.specs.from_bench_outcomes.declared.status.Status.{Status}
use Rattle.bench_reports.specs.from_bench_outcomes.declared.status.Status.TheVariants as status
use Rattle.bench_reports.specs.from_bench_outcomes.declared.status.Status.TheVariants.{Done, Negative, Usage, ReadFault, BadInput, WriteFault}
use Rattle.bench_top.specs.Writes.{WritesAs}

-- the first file is the one at this place, with these bytes, and of the others that holds
pub record BeginsWith (place : ℕ) (bytes : List ℕ) (others : List NamedFile → Type 0) (files : List NamedFile) : Type 0 where
  pub rest : List NamedFile
  pub are : files ≡ (place_name place, bytes) ∷ rest
  pub others_hold : others rest

-- the files are those that reads which answered so gave, from this place on, and no others: each
-- is named by its place, and has the bytes that were given, or, where it was too long to be given,
-- some that are too many
abbrev pub AreGiven : (place : ℕ) → List Answer → List NamedFile → Type 0
AreGiven place [] files = files ≡ []
AreGiven place (Ok bytes ∷ answers) files = BeginsWith place bytes (AreGiven (place + 1) answers) files
AreGiven place (Err Failed ∷ answers) files = AreGiven (place + 1) answers files
AreGiven place (Err TooLong ∷ answers) files = (bytes : List ℕ) × (most_bytes < length bytes) × BeginsWith place bytes (AreGiven (place + 1) answers) files
AreGiven place (Err Memory ∷ answers) files = AreGiven (place + 1) answers files

-- which of the reads failed that answered so, in a run that ended with this status: the last one at
-- ReadFault, and else none. So a read that failed is no want of memory
abbrev pub FailedWith : Status → List Answer → Type 0
FailedWith Done answers = failures_of answers ≡ 0
FailedWith Negative answers = failures_of answers ≡ 0
FailedWith Usage answers = failures_of answers ≡ 0
FailedWith ReadFault answers = LastFailed answers
FailedWith BadInput answers = failures_of answers ≡ 0
FailedWith WriteFault answers = failures_of answers ≡ 0
FailedWith status.Memory answers = failures_of answers ≡ 0

-- a run of the command, if the words match one, led from the first shelf to the last and from one
-- sink to the other: its reads gave files, and the status and what was written are those of an
-- outcome of these files, or what was written is a proper prefix of one where writing failed
pub record GivenOutcome {S K : Type 0} (reads : S → List ℕ → Answer → S → Type 0) (written : K → Option (List ℕ)) (writes : K → List ℕ → ℕ → K → Type 0) (row : Option Command) (status : Status) (first last : S) (before now : K) : Type 0 where
  pub answers : List Answer
  pub in_turn : AnswersInTurn reads (names_in row) answers first last
  pub failed : FailedWith status answers
  pub files : List NamedFile
  pub given : AreGiven 1 answers files
  pub wrote : WritesAs written writes (CommandGives files (option_map by_place row)) status before now
