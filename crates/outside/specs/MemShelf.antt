-- A shelf in memory as its users see it.
-- Stated by: outside, bench_top.
use Rattle.std.specs.Prelude.{◌≡◌, ℕ, List, Contains, ◌⊎◌, length, None, Some, Ok, Err}
use Rattle.outside.specs.Faults.{next_call}
use Rattle.outside.specs.Shelf.{Answer, HoldsLonger, NamedFile, file_named}
use Rattle.outside.specs.declared.shelf.ShelfFault.TheVariants.{Failed, TooLong, Memory}

-- the files; the read calls that are to fail, by their numbers; the counts of calls, of the bytes
-- that the last read took, and of errors
pub record ShelfState : Type 0 where
  pub files : List NamedFile
  pub failing : List ℕ
  pub calls : ℕ
  pub taken : ℕ
  pub faults : ℕ

-- the next read of that name fails: its number is planned, or no file has the name
abbrev pub FailsNext : ShelfState → List ℕ → Type 0
FailsNext shelf name = Contains shelf.failing (next_call shelf.calls) ⊎ (file_named name shelf.files ≡ None)

-- the bytes that a read of that name may take: those of its whole file, or none
abbrev pub MayTakeBytes : List NamedFile → List ℕ → ℕ → Type 0
MayTakeBytes files name taken = (taken ≡ 0) ⊎ ((bytes : List ℕ) × ((file_named name files ≡ Some bytes) × (length bytes ≡ taken)))

-- a read of that name may return this: all bytes of the file; that it fails, if it does; that the
-- file has more bytes than some limit; lack of memory at any time
abbrev pub MayAnswer : ShelfState → List ℕ → Answer → Type 0
MayAnswer shelf name (Ok bytes) = file_named name shelf.files ≡ Some bytes
MayAnswer shelf name (Err Failed) = FailsNext shelf name
MayAnswer shelf name (Err TooLong) = (limit : ℕ) × HoldsLonger shelf.files name limit
MayAnswer shelf name (Err Memory) = Unit {0}

-- a read of that name with this result leads from the first state to the second: it is counted, and
-- changes no file and no plan
pub record IsRead (before : ShelfState) (name : List ℕ) (answer : Answer) (now : ShelfState) : Type 0 where
  pub answered : MayAnswer before name answer
  pub files : now.files ≡ before.files
  pub failing : now.failing ≡ before.failing
  pub calls : now.calls ≡ next_call before.calls
  pub taken : MayTakeBytes before.files name now.taken
