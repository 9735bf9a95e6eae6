-- A file of a runtime, or its standard input, as its users see it.
-- Stated by: outside, theorems. Used by: mcg6_encoder, mcg6_top, mcg6_front_top.
use Rattle.std.specs.Prelude.{◌≡◌, ℕ, List, [], ◌∷◌, ◌++◌, Option, Some, None}
use Rattle.outside.specs.Faults.{MayCount}
use Rattle.outside.specs.Shelf.{NamedFile}
use Rattle.outside.specs.declared.explain.FailureReason.{FailureReason}

-- the name that was opened, if there is one
abbrev pub name_in : List NamedFile → Option (List ℕ)
name_in [] = None
name_in (file ∷ files) = Some file.0

-- the name that was opened, none for standard input, and the bytes that were read, in order
pub record ReaderState : Type 0 where
  pub name : Option (List ℕ)
  pub read : List ℕ

-- the same, the count of errors, and why the last read that failed did
pub record ReadState : Type 0 where
  pub name : Option (List ℕ)
  pub read : List ℕ
  pub faults : ℕ
  pub reason : Option FailureReason

-- the bytes that were read once a read returned these, or failed
abbrev pub read_after : List ℕ → Option (List ℕ) → List ℕ
read_after read (Some piece) = read ++ piece
read_after read None = read

-- a read that returned these bytes, or failed, leads from the first state to the second
pub record HasTaken (before : ReadState) (piece : Option (List ℕ)) (now : ReadState) : Type 0 where
  pub name : now.name ≡ before.name
  pub read : now.read ≡ read_after before.read piece
  pub faults : MayCount before.faults now.faults
