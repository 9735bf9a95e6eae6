-- A reader that names the value that a text stands for, or its first fault, names what comes of
-- the text line by line.
use Rattle.std.proofs.Common.{ℕ, List, Result, Ok, Err, IfOk, IfErr}
use Rattle.graph_core.specs.from_line_text.Common.{Rules, Stands, reading_of, IsFirstFault, ReadsText}
use Rattle.graph_core.proofs.from_line_text.ExactlyOne.{Stands-reading_of, FirstFault-reading_of}
use Rattle.graph_core.specs.from_line_text.declared.faults.FaultKind.{FaultKind}
use Rattle.graph_core.specs.from_line_text.declared.faults.TextFault.{TextFault}
use Rattle.graph_core.specs.from_line_text.declared.faults.TextFault.TheVariants.{At, Memory}

pub ReadsText-reading_of : {X Body Value : Type 0} (rules : Rules Body Value FaultKind) (view : X → Value) (text : List ℕ) (result : Result X TextFault) → IfOk result (λ x. Stands rules text (view x)) → IfErr result (IsFirstFault rules text) → ReadsText view result (reading_of rules text)
ReadsText-reading_of rules view text (Ok x) stands fault = Stands-reading_of rules text (view x) stands
ReadsText-reading_of rules view text (Err (At line kind)) stands fault = FirstFault-reading_of rules text line kind fault
ReadsText-reading_of rules view text (Err Memory) stands fault = tt
