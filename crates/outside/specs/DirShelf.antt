-- A shelf of real files as its users see it.
-- Stated by: outside, theorems. Used by: bench_top, front_top.
use Rattle.std.specs.Prelude.{◌≡◌, ℕ, List, [], ◌∷◌, ◌++◌, length, Option, Ok, Err}
use Rattle.outside.specs.declared.explain.FailureReason.{FailureReason}
use Rattle.outside.specs.Faults.{next_fault}
use Rattle.outside.specs.Shelf.{Answer, NamedFile}
use Rattle.outside.specs.declared.shelf.ShelfFault.TheVariants.{Failed, TooLong, Memory}

-- the files that were given, in order; the bytes that the last read took, the count of errors, and
-- why the last read failed
pub record OpenState : Type 0 where
  pub given : List NamedFile
  pub taken : ℕ
  pub faults : ℕ
  pub reason : Option FailureReason

-- the files that were given once a read of that name answered so: one more, if it returned a file
abbrev pub given_after : List NamedFile → List ℕ → Answer → List NamedFile
given_after given name (Ok bytes) = given ++ (name, bytes) ∷ []
given_after given name (Err fault) = given

-- a read of that name with this result leads from the first state to the second: an error is
-- counted if and only if it failed, and if it returned a file, this file was given, and as many
-- bytes were taken as it has
abbrev pub CountsFault : OpenState → Answer → OpenState → Type 0
CountsFault before (Ok bytes) now = (now.faults ≡ before.faults) × (length bytes ≡ now.taken)
CountsFault before (Err Failed) now = now.faults ≡ next_fault before.faults
CountsFault before (Err TooLong) now = now.faults ≡ before.faults
CountsFault before (Err Memory) now = now.faults ≡ before.faults

pub record IsOpened (before : OpenState) (name : List ℕ) (answer : Answer) (now : OpenState) : Type 0 where
  pub given : now.given ≡ given_after before.given name answer
  pub counted : CountsFault before answer now
