-- Formats of texts, line by line: what a text stands for, and its first error.
-- Stated by: line_text, graph_text, tree_text, move_text, ear_text, mcg6_encoder, example_order.
-- Used by: report_text, bench_tasks, bench_outcomes, bench_reports, bench_top, theorems.
use Rattle.std.specs.Prelude.{◌≡◌, ◌⊎◌, ℕ, ◌+◌, List, [], ◌∷◌, ◌++◌, length, map, Option, Some, None, Result, Ok, Err, Bool, if◌then◌else◌}
use Rattle.line_text.specs.Lines.{lines_of}
use Rattle.line_text.specs.Words.{SignificantLine, significant_lines_of}

-- a format: rules for the header, for a line after the header and for the end of the text, each of
-- which continues from what has been read so far or gives an error, and the error of a text without
-- a header
pub record Rules (Body Value Kind : Type 0) : Type 0 where
  pub header : List (List ℕ) → Result Body Kind
  pub line : Body → List (List ℕ) → Result Body Kind
  pub close : Body → Result Value Kind
  pub headless : Kind

-- a rule's table: the kind of the first test that applies, or the value if none does
abbrev pub checked : {A Kind : Type 0} → List (Bool × Kind) → A → Result A Kind
checked [] value = Ok value
checked (test ∷ tests) value = if test.0 then Err test.1 else checked tests value

module _ {Body Value Kind : Type 0} (rules : Rules Body Value Kind) where
  -- what the format says to the words of a significant line, the first of which is the header
  abbrev pub step : Option Body → List (List ℕ) → Result Body Kind
  step None words = rules.header words
  step (Some body) words = rules.line body words

  -- what the format says to the end of the text
  abbrev pub finish : Option Body → Result Value Kind
  finish None = Err rules.headless
  finish (Some body) = rules.close body

  -- the lines with these words are a valid beginning, which leads from one state to the other
  abbrev pub Begins : Option Body → List (List (List ℕ)) → Option Body → Type 0
  Begins from [] to = to ≡ from
  Begins from (words ∷ lines) to = (body : Body) × (step from words ≡ Ok body) × Begins (Some body) lines to

  -- the text stands for the value: its significant lines are a valid beginning, and at its end the
  -- format has this value
  pub record Stands (text : List ℕ) (value : Value) : Type 0 where
    pub reached : Option Body
    pub begins : Begins None (map (λ line. line.words) (significant_lines_of text)) reached
    pub ends : finish reached ≡ Ok value

  -- a line breaks the format, and the significant lines before it are a valid beginning
  pub record BreaksAtLine (text : List ℕ) (number : ℕ) (kind : Kind) : Type 0 where
    pub before : List SignificantLine
    pub line : SignificantLine
    pub after : List SignificantLine
    pub cut : significant_lines_of text ≡ before ++ line ∷ after
    pub numbered : line.number ≡ number
    pub reached : Option Body
    pub begins : Begins None (map (λ l. l.words) before) reached
    pub breaks : step reached line.words ≡ Err kind

  -- all significant lines are a valid beginning, but the text ends too early, after its last line
  pub record BreaksAtEnd (text : List ℕ) (number : ℕ) (kind : Kind) : Type 0 where
    pub numbered : number ≡ length (lines_of text) + 1
    pub reached : Option Body
    pub begins : Begins None (map (λ line. line.words) (significant_lines_of text)) reached
    pub breaks : finish reached ≡ Err kind

  -- the first error of the text is at the line of this number and is of this kind
  abbrev pub FirstFault : List ℕ → ℕ → Kind → Type 0
  FirstFault text number kind = BreaksAtLine text number kind ⊎ BreaksAtEnd text number kind

  -- the text stands for exactly one value, and has no error
  pub record StandsAlone (text : List ℕ) : Type 0 where
    pub value : Value
    pub stands : Stands text value
    pub only : (other : Value) → Stands text other → other ≡ value
    pub faultless : (number : ℕ) (kind : Kind) → FirstFault text number kind → ⊥

  -- the text has exactly one first error, and stands for no value
  pub record BreaksAlone (text : List ℕ) : Type 0 where
    pub number : ℕ
    pub kind : Kind
    pub breaks : FirstFault text number kind
    pub only : (other : ℕ) (other_kind : Kind) → FirstFault text other other_kind → (other ≡ number) × (other_kind ≡ kind)
    pub valueless : (value : Value) → Stands text value → ⊥
