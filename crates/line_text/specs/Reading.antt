-- Reading a text line by line, and what a rule or a reader of a program returns.
-- Stated by: line_text, graph_text, tree_text, move_text, ear_text, bench_tasks.
-- Used by: bench_top, theorems.
use Rattle.std.specs.Prelude.{◌≡◌, ◌↔◌, ℕ, ◌+◌, List, [], ◌∷◌, length, Option, Some, None, Result, Ok, Err, if◌then◌else◌}
use Rattle.std.specs.Result.{result_map_both}
use Rattle.line_text.specs.declared.format.RuleFault.{RuleFault}
use Rattle.line_text.specs.declared.format.RuleFault.TheVariants as refusal
use Rattle.line_text.specs.declared.format.LineFault.{LineFault}
use Rattle.line_text.specs.declared.format.LineFault.TheVariants as fault
use Rattle.line_text.specs.Lines.{lines_of}
use Rattle.line_text.specs.Words.{SignificantLine, significant_lines_of, is_skipped}
use Rattle.line_text.specs.Format.{Rules, step, finish, Stands, FirstFault}

-- the error that a rule returns is the expected one, unless memory ran out
abbrev pub Refuses : {Y Kind : Type 0} → RuleFault Kind → Result Y Kind → Type 0
Refuses (refusal.Fault kind) given = given ≡ Err kind
Refuses refusal.Memory given = Unit {0}

-- what a rule returned, seen by view, is the expected value, unless memory ran out
abbrev pub Gives : {X Y Kind : Type 0} → (X → Y) → Result X (RuleFault Kind) → Result Y Kind → Type 0
Gives view (Ok x) given = given ≡ Ok (view x)
Gives view (Err refused) given = Refuses refused given

-- the error that a reader returns is the one of the text, unless memory ran out
abbrev pub Fails : {Value Kind : Type 0} → LineFault Kind → Result Value (ℕ × Kind) → Type 0
Fails (fault.At line kind) outcome = outcome ≡ Err (line, kind)
Fails fault.Memory outcome = Unit {0}

-- what reading a text returned, seen by view, is this value or this error, unless memory ran out
abbrev pub Reads : {X Value Kind : Type 0} → (X → Value) → Result X (LineFault Kind) → Result Value (ℕ × Kind) → Type 0
Reads view (Ok x) outcome = outcome ≡ Ok (view x)
Reads view (Err failed) outcome = Fails failed outcome

-- a rule's error, at the line of this number
abbrev pub placed : {Kind : Type 0} → ℕ → RuleFault Kind → LineFault Kind
placed number (refusal.Fault kind) = fault.At number kind
placed number refusal.Memory = fault.Memory

-- continues with the value of a rule, or places its error at this line
abbrev pub go_on : {Body Value Kind : Type 0} → ℕ → Result Body Kind → (Body → Result Value (ℕ × Kind)) → Result Value (ℕ × Kind)
go_on number (Ok body) next = next body
go_on number (Err kind) next = Err (number, kind)

module _ {Body Value Kind : Type 0} (rules : Rules Body Value Kind) where
  -- the state after a line with these words, unchanged if the line is skipped
  abbrev pub state_after : Option Body → List (List ℕ) → Result (Option Body) Kind
  state_after from words = if is_skipped words then Ok from else result_map_both (λ body. Some body) (λ kind. kind) (step rules from words)

  -- the result of further significant lines in a text of so many lines: the value, or the first
  -- error's line and kind
  abbrev pub reading_from : Option Body → List SignificantLine → ℕ → Result Value (ℕ × Kind)
  reading_from from [] count = go_on (count + 1) (finish rules from) (λ value. Ok value)
  reading_from from (line ∷ lines) count =
      go_on line.number (step rules from line.words) (λ body. reading_from (Some body) lines count)

  -- the result of a text that is read line by line: the value, or the first error's line and kind
  abbrev pub reading_of : List ℕ → Result Value (ℕ × Kind)
  reading_of text = reading_from None (significant_lines_of text) (length (lines_of text))

  -- the error that a reader returns is the first one
  abbrev pub IsFirst : List ℕ → LineFault Kind → Type 0
  IsFirst text (fault.At line kind) = FirstFault rules text line kind
  IsFirst text fault.Memory = Unit {0}

  -- reading line by line returns the value that a text stands for, if there is one, and otherwise
  -- its first error
  pub record ReadingTells (text : List ℕ) : Type 0 where
    pub values : (value : Value) → Stands rules text value ↔ (reading_of text ≡ Ok value)
    pub faults : (number : ℕ) (kind : Kind) → FirstFault rules text number kind ↔ (reading_of text ≡ Err (number, kind))
