-- What an error that a reader returns says about the text.
-- Stated by: graph6_text. Used by: line_text.
use Rattle.std.specs.Prelude.{◌≡◌, ℕ, Result, Err}
use Rattle.line_text.specs.declared.faults.FaultKind.{FaultKind}
use Rattle.line_text.specs.declared.faults.TextFault.{TextFault}
use Rattle.line_text.specs.declared.faults.TextFault.TheVariants.{At, Memory}

-- an error is the one that the text has by its outcome, unless memory ran out
abbrev pub IsFault : {Value : Type 0} → TextFault → Result Value (ℕ × FaultKind) → Type 0
IsFault (At line kind) outcome = outcome ≡ Err (line, kind)
IsFault Memory outcome = Unit {0}
