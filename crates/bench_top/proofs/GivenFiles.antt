-- There are files that reads gave, whatever they answered: one for each answer that gave one, named
-- by its place. They hold what was answered at each place, since places differ.
use Rattle.move_text.proofs.from_counting.Common.{◌≡◌, ◌<◌, ℕ, ◌+◌, List, [], ◌∷◌, length, refl, subst, sym, arith, Result, Ok, Err, replicate, false, Option, Some, bytes_eq, length-replicate, nat_tests}
use Rattle.outside.specs.Common.{Answer, NamedFile, file_named, most_bytes}
use Rattle.outside.specs.declared.shelf.ShelfFault.TheVariants.{Failed, TooLong, Memory}
use Rattle.bench_reports.specs.from_bench_tasks.Common.{FailedAs, GathersAnswered, HoldGiven, IsReadFault, failures_of, by_place, place_name, Command, loaded, Held, LoadsAs, task_of}
use Rattle.bench_reports.specs.from_bench_tasks.declared.stop.LoadStop.{LoadStop}
use Rattle.bench_reports.specs.from_bench_tasks.declared.stop.LoadStop.TheVariants as stop
use Rattle.bench_reports.specs.from_bench_tasks.declared.tasks.Task.TheVariants as code
use Rattle.bench_reports.specs.from_bench_outcomes.Common.{LoadedGives}
use Rattle.bench_reports.specs.from_bench_outcomes.declared.status.Status.{Status}
use Rattle.bench_reports.specs.from_bench_outcomes.declared.status.Status.TheVariants as ended
use Rattle.bench_top.specs.Given.{AreGiven, BeginsWith, FailedWith, GivenOutcome}
use Rattle.bench_top.specs.Writes.{WritesAs}

-- the next name is another
next-name : (place next : ℕ) → place < next → bytes_eq (place_name place) (place_name next) ≡ false
next-name place next before = grind (arith, nat_tests, before)

-- a file before them changes nothing of what those hold that come after it
holds-after : (place : ℕ) (bytes : List ℕ) (files : List NamedFile) (next : ℕ) → place < next → (answers : List Answer) → HoldGiven files next answers → HoldGiven ((place_name place, bytes) ∷ files) next answers
holds-after place bytes files next before [] held = tt
holds-after place bytes files next before (answer ∷ answers) held = grind (arith, next-name place next before, holds-after place bytes files (next + 1) (omega (arith, before)) answers held.1)

-- the first file is found
first-named : (place : ℕ) (bytes : List ℕ) (files : List NamedFile) → file_named (place_name place) ((place_name place, bytes) ∷ files) ≡ Some bytes
first-named place bytes files = grind arith

-- some file is longer than any number
longer : (n : ℕ) → (bytes : List ℕ) × (n < length bytes)
longer n = (replicate (n + 1) 0, let size = length-replicate {A = ℕ} (n + 1) 0 in omega (arith, size))

-- files that were given, and what they hold
pub record FilesGiven (place : ℕ) (answers : List Answer) : Type 0 where
  pub files : List NamedFile
  pub given : AreGiven place answers files
  pub held : HoldGiven files place answers

with-file : (place : ℕ) (bytes : List ℕ) (answers : List Answer) → (rest : FilesGiven (place + 1) answers) →
    BeginsWith place bytes (AreGiven (place + 1) answers) ((place_name place, bytes) ∷ rest.files) × HoldGiven ((place_name place, bytes) ∷ rest.files) (place + 1) answers
with-file place bytes answers rest = grind (arith, holds-after place bytes rest.files (place + 1))

pub files-given : (place : ℕ) (answers : List Answer) → FilesGiven place answers
files-given place [] = record { files = []; given = refl; held = tt }
files-given place (Ok bytes ∷ answers) =
    let rest = files-given (place + 1) answers in
    let more = with-file place bytes answers rest in
    record { files = (place_name place, bytes) ∷ rest.files; given = more.0; held = (first-named place bytes rest.files, more.1) }
files-given place (Err Failed ∷ answers) = let rest = files-given (place + 1) answers in record { files = rest.files; given = rest.given; held = (tt, rest.held) }
files-given place (Err TooLong ∷ answers) =
    let rest = files-given (place + 1) answers in
    let long = longer most_bytes in
    let more = with-file place long.0 answers rest in
    grind arith
files-given place (Err Memory ∷ answers) = let rest = files-given (place + 1) answers in record { files = rest.files; given = rest.given; held = (tt, rest.held) }

-- no read failed
none-failed-with : (status : Status) (answers : List Answer) → (status ≡ ended.ReadFault → ⊥) → failures_of answers ≡ 0 → FailedWith status answers
none-failed-with ended.Done answers not none = none
none-failed-with ended.Negative answers not none = none
none-failed-with ended.Usage answers not none = none
none-failed-with ended.ReadFault answers not none = absurd (not refl)
none-failed-with ended.BadInput answers not none = none
none-failed-with ended.WriteFault answers not none = none
none-failed-with ended.Memory answers not none = none

-- a read failed exactly at that status
failed-with : (status : Status) (result : Result code.the_data LoadStop) (answers : List Answer) →
    (status ≡ ended.ReadFault → IsReadFault result) → (IsReadFault result → status ≡ ended.ReadFault) → FailedAs answers result → FailedWith status answers
failed-with status (Ok task) answers to from failed = none-failed-with status answers (λ e. to e) failed
failed-with status (Err (stop.ReadFault file unread)) answers to from failed = subst (λ (s : Status). FailedWith s answers) (sym (from tt)) failed
failed-with status (Err (stop.Bad file line kind found)) answers to from failed = none-failed-with status answers (λ e. to e) failed
failed-with status (Err stop.Memory) answers to from failed = none-failed-with status answers (λ e. to e) failed

-- a run whose writes are those of an outcome of whatever was loaded
pub given-outcome :
    {S K : Type 0} (reads : S → List ℕ → Answer → S → Type 0) (written : K → Option (List ℕ)) (writes : K → List ℕ → ℕ → K → Type 0) (command : Command)
    (result : Result code.the_data LoadStop) (status : Status) (first last : S) (before now : K) →
    (status ≡ ended.ReadFault → IsReadFault result) → (IsReadFault result → status ≡ ended.ReadFault) →
    GathersAnswered reads command result first last → ((held : Held) → LoadsAs task_of result held → WritesAs written writes (LoadedGives held) status before now) →
    GivenOutcome reads written writes (Some command) status first last before now
given-outcome reads written writes command result status first last before now to from made wrote =
    let are = files-given 1 made.answers in
    record {
      answers = made.answers;
      in_turn = made.in_turn;
      failed = failed-with status result made.answers to from made.failed;
      files = are.files;
      given = are.given;
      wrote = wrote (loaded are.files (by_place command)) (made.loads are.files are.held);
    }
