-- A shelf that notes the files that a runtime gave, and what was given in turn.
-- Stated by: outside. Used by: bench_top, front_top, theorems.
use Rattle.std.specs.Prelude.{◌≡◌, ℕ, List, [], ◌∷◌, ◌++◌, Ok}
use Rattle.outside.specs.Shelf.{Answer, NamedFile}

-- a read that returns a file notes it, with the name that was asked for
abbrev pub NotesFiles : {S : Type 0} → (S → List ℕ → Answer → S → Type 0) → (S → List NamedFile) → Type 0
NotesFiles {S} reads given = (before : S) (name bytes : List ℕ) (now : S) → reads before name (Ok bytes) now → given now ≡ given before ++ (name, bytes) ∷ []

-- these names with these texts
abbrev pub named_texts : List (List ℕ) → List (List ℕ) → List NamedFile
named_texts [] texts = []
named_texts (name ∷ names) [] = []
named_texts (name ∷ names) (text ∷ texts) = (name, text) ∷ named_texts names texts
