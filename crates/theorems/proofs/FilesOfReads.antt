-- What the first read of a run gave, if what it gave was read as a value: bytes that stand for this
-- value, and the other reads gave the other files. The files are named by their places, so that a
-- name finds no later file; a read that failed gave no file, and one of a file that is too long one
-- that is not read.
use Rattle.tree_check.proofs.from_counting.Common.{◌≡◌, ◌<◌, ℕ, ◌+◌, false, cond, List, [], ◌∷◌, length, Option, Some, None, Result, Ok, Err, sym, ap, ◌∙◌, arith, lt-ltb, bytes_eq, nat_tests}
use Rattle.bench_top.specs.from_outside.Common.{Answer, AnswersInTurn, NamedFile, file_named, most_bytes}
use Rattle.bench_top.specs.from_outside.declared.shelf.ShelfFault.TheVariants.{Failed, TooLong, Memory}
use Rattle.graph_core.specs.from_line_text.declared.faults.FaultKind.{FaultKind}
use Rattle.bench_tasks.specs.Common.{All, Loaded, file_read, pick_file}
use Rattle.bench_top.specs.Given.{AreGiven}

-- the name of the file at a place
abbrev pub name_at : ℕ → List ℕ
name_at place = place ∷ []

-- another name
other-name : (place later : ℕ) → place < later → bytes_eq (name_at later) (name_at place) ≡ false
other-name place later before = grind (arith, nat_tests, before)

behind : (place later : ℕ) → place < later → (bytes : List ℕ) (rest : List NamedFile) → file_named (name_at place) rest ≡ None → file_named (name_at place) ((name_at later, bytes) ∷ rest) ≡ None
behind place later before bytes rest none = ap (λ b. cond b (Some bytes) (file_named (name_at place) rest)) (other-name place later before) ∙ none

-- the files from a later place on have no file of this name
none-named : (place later : ℕ) → place < later → (answers : List Answer) (files : List NamedFile) → AreGiven later answers files → file_named (name_at place) files ≡ None
none-named place later before [] files given = ap (file_named (name_at place)) given
none-named place later before (Ok bytes ∷ answers) files given = ap (file_named (name_at place)) given.are ∙ behind place later before bytes given.rest (none-named place (later + 1) (omega arith) answers given.rest given.others_hold)
none-named place later before (Err Failed ∷ answers) files given = none-named place (later + 1) (omega arith) answers files given
none-named place later before (Err TooLong ∷ answers) files given = ap (file_named (name_at place)) given.2.are ∙ behind place later before given.0 given.2.rest (none-named place (later + 1) (omega arith) answers given.2.rest given.2.others_hold)
none-named place later before (Err Memory ∷ answers) files given = none-named place (later + 1) (omega arith) answers files given

-- no value is loaded of a file that is missing or too long
pub record LoadsFiles {A : Type 0} (load : Option (List ℕ) → Loaded A) (value : A) : Type 0 where
  pub held : load None ≡ All value → ⊥
  pub few : (bytes : List ℕ) → most_bytes < length bytes → load (Some bytes) ≡ All value → ⊥

module _ {A : Type 0} (p : ℕ) (reading : List ℕ → Result A (ℕ × FaultKind)) (value : A) where
  -- what is read as a value stands for it
  pub text-read : (bytes : List ℕ) → file_read p reading (Some bytes) ≡ All value → reading bytes ≡ Ok value
  text-read bytes e = grind arith

  pub file-loads : LoadsFiles (file_read p reading) value
  file-loads = grind arith

-- the list of picks of a file, or of none
abbrev pub picks_in : Option (List ℕ) → Loaded (List ℕ)
picks_in None = pick_file [] []
picks_in (Some bytes) = pick_file (([], bytes) ∷ []) []

pub picks-in : (files : List NamedFile) (name : List ℕ) → pick_file files name ≡ picks_in (file_named name files)
picks-in files name = grind arith

pub picks-load : (list : List ℕ) → LoadsFiles picks_in list
picks-load list = record { held = λ e. cc e; few = λ bytes long e. let f = rw (lt-ltb most_bytes (length bytes) long) at e in cc f }

-- the first read gave bytes of which the value is loaded, and the others the other files
pub record GaveFirst {S A : Type 0} (reads : S → List ℕ → Answer → S → Type 0) (name : List ℕ) (names : List (List ℕ)) (place : ℕ) (files : List NamedFile) (load : Option (List ℕ) → Loaded A) (value : A) (first last : S) : Type 0 where
  pub bytes : List ℕ
  pub loads : load (Some bytes) ≡ All value
  pub next : S
  pub read : reads first name (Ok bytes) next
  pub answers : List Answer
  pub in_turn : AnswersInTurn reads names answers next last
  pub others : List NamedFile
  pub are : files ≡ (name_at place, bytes) ∷ others
  pub given : AreGiven (place + 1) answers others

module _ {S A : Type 0} (reads : S → List ℕ → Answer → S → Type 0) (name : List ℕ) (names : List (List ℕ)) (place : ℕ) (load : Option (List ℕ) → Loaded A) (value : A) (is : LoadsFiles load value) (first last : S) where
  -- no file of the name
  no-file : (file : Option (List ℕ)) → file ≡ None → load file ≡ All value → ⊥
  no-file file none e = is.held (ap load (sym none) ∙ e)

  pub gave-first : (answers : List Answer) (files : List NamedFile) → AnswersInTurn reads (name ∷ names) answers first last → AreGiven place answers files → load (file_named (name_at place) files) ≡ All value →
      GaveFirst reads name names place files load value first last
  gave-first [] files turn given e = absurd (no-file (file_named (name_at place) files) (ap (file_named (name_at place)) given) e)
  gave-first (Ok bytes ∷ answers) files turn given e = grind arith
  gave-first (Err Failed ∷ answers) files turn given e = absurd (no-file (file_named (name_at place) files) (none-named place (place + 1) (omega arith) answers files given) e)
  gave-first (Err TooLong ∷ answers) files turn given e = grind arith
  gave-first (Err Memory ∷ answers) files turn given e = absurd (no-file (file_named (name_at place) files) (none-named place (place + 1) (omega arith) answers files given) e)

-- no name is left
pub all-read : {S : Type 0} (reads : S → List ℕ → Answer → S → Type 0) (answers : List Answer) (first last : S) → AnswersInTurn reads [] answers first last → last ≡ first
all-read reads [] first last turn = turn
all-read reads (answer ∷ answers) first last turn = absurd turn
