-- What the lines of a list give, one after another: their outputs, or the reports on the lines that
-- are skipped.
-- Stated by: mcg6_reader, mcg6_top.
use Rattle.std.specs.Prelude.{◌≡◌, ℕ, ◌<◌, ◌⊎◌, List, [], ◌∷◌, ◌++◌, length, take, Option, Some, None}
use Rattle.line_text.specs.declared.faults.FaultKind.{FaultKind}
use Rattle.mcg6_reader.specs.declared.ending.BadLine.{BadLine}
use Rattle.mcg6_reader.specs.declared.place.LinePlace.{LinePlace}
use Rattle.mcg6_reader.specs.Places.{place_after, place_behind}
use Rattle.mcg6_reader.specs.Told.{LineTold, NamesBad}

-- this is what the lines give, where the first is at that place: what each gives, in their order
abbrev pub AllTold : {A : Type 0} → (LinePlace → List ℕ → List A → Type 0) → LinePlace → List (List ℕ) → List A → Type 0
AllTold tells place [] output = output ≡ []
AllTold {A} tells place (line ∷ lines) output =
    (first : List A) × (others : List A) × (LineTold tells place line first) × (AllTold tells (place_after place line) lines others)
    × (output ≡ first ++ others)

-- an initial segment of the lines has been processed, also where a read failed or memory ran out
pub record BeginningTold {A : Type 0} (tells : LinePlace → List ℕ → List A → Type 0) (place : LinePlace) (lines : List (List ℕ)) (output : List A) : Type 0 where
  pub before : List (List ℕ)
  pub behind : List (List ℕ)
  pub cut : lines ≡ before ++ behind
  pub told : AllTold tells place before output

-- all lines have been processed, and a list may end after them
pub record WholeTold {A : Type 0} (tells : LinePlace → List ℕ → List A → Type 0) (lacks : ℕ → Option FaultKind) (place : LinePlace) (lines : List (List ℕ)) (output : List A) : Type 0 where
  pub told : AllTold tells place lines output
  pub ends : lacks (place_behind place lines).graphs ≡ None

-- the lines before the first bad one have been processed, and this is the report on that one
pub record HasBadLine {A : Type 0} (tells : LinePlace → List ℕ → List A → Type 0) (bad : LinePlace → List ℕ → FaultKind → Type 0) (place : LinePlace) (lines : List (List ℕ)) (found : BadLine) (output : List A) : Type 0 where
  pub before : List (List ℕ)
  pub line : List ℕ
  pub behind : List (List ℕ)
  pub cut : lines ≡ before ++ line ∷ behind
  pub told : AllTold tells place before output
  pub named : NamesBad bad (place_behind place before) line found

-- all lines have been processed, and no list may end after them: this is the report on the missing
-- line, with an empty text
pub record LacksLine {A : Type 0} (tells : LinePlace → List ℕ → List A → Type 0) (lacks : ℕ → Option FaultKind) (place : LinePlace) (lines : List (List ℕ)) (found : BadLine) (output : List A) : Type 0 where
  pub told : AllTold tells place lines output
  pub ends : lacks (place_behind place lines).graphs ≡ Some found.kind
  pub number : found.number ≡ (place_behind place lines).number
  pub nothing : found.text.items ≡ []

-- the lines before the first that is bad or missing have been processed, and this is the report on
-- that one
abbrev pub ToldToBad :
    {A : Type 0} → (LinePlace → List ℕ → List A → Type 0) → (LinePlace → List ℕ → FaultKind → Type 0) → (ℕ → Option FaultKind) → LinePlace → List (List ℕ) →
    BadLine → List A → Type 0
ToldToBad tells bad lacks place lines found output =
    HasBadLine tells bad place lines found output ⊎ LacksLine tells lacks place lines found output

-- a proper prefix of the output of an initial segment of the lines
pub record CutShort {A : Type 0} (tells : LinePlace → List ℕ → List A → Type 0) (place : LinePlace) (lines : List (List ℕ)) (output : List A) : Type 0 where
  pub whole : List A
  pub count : ℕ
  pub of : BeginningTold tells place lines whole
  pub less : count < length whole
  pub part : output ≡ take count whole

-- each line has at most one output
abbrev pub HasOneOutputPerLine : (LinePlace → List ℕ → List ℕ → Type 0) → Type 0
HasOneOutputPerLine tells = (place : LinePlace) (line a b : List ℕ) → tells place line a → tells place line b → a ≡ b

-- each line has at most one kind of a first error
abbrev pub HasOneFault : (LinePlace → List ℕ → FaultKind → Type 0) → Type 0
HasOneFault bad = (place : LinePlace) (line : List ℕ) (kind other : FaultKind) → bad place line kind → bad place line other → kind ≡ other

-- no line has both an output and an error
abbrev pub TellsApart : (LinePlace → List ℕ → List ℕ → Type 0) → (LinePlace → List ℕ → FaultKind → Type 0) → Type 0
TellsApart tells bad = (place : LinePlace) (line output : List ℕ) (kind : FaultKind) → tells place line output → bad place line kind → ⊥
