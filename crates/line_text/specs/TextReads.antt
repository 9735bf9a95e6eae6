-- What a reader of a text returns, with the errors that all texts share.
-- Stated by: line_text, graph_text, tree_text, move_text, ear_text, mcg6_encoder and 2 more.
use Rattle.std.specs.Prelude.{◌≡◌, ℕ, List, Result, Ok, Err}
use Rattle.line_text.specs.Format.{Rules, FirstFault}
use Rattle.line_text.specs.Faults.{IsFault}
use Rattle.line_text.specs.declared.faults.FaultKind.{FaultKind}
use Rattle.line_text.specs.declared.faults.TextFault.{TextFault}
use Rattle.line_text.specs.declared.faults.TextFault.TheVariants.{At, Memory}

-- an error with a line and a kind is the first error of the text
abbrev pub IsFirstFault : {Body Value : Type 0} → Rules Body Value FaultKind → List ℕ → TextFault → Type 0
IsFirstFault rules text (At line kind) = FirstFault rules text line kind
IsFirstFault rules text Memory = Unit {0}

-- what a reader returned, seen by view, is this value or this error, unless memory ran out
abbrev pub ReadsText : {X Value : Type 0} → (X → Value) → Result X TextFault → Result Value (ℕ × FaultKind) → Type 0
ReadsText view (Ok x) outcome = outcome ≡ Ok (view x)
ReadsText view (Err fault) outcome = IsFault fault outcome
