use Rattle.std.proofs.Common.{Ok, Err, subst}
use Rattle.line_text.specs.Common.{Fails}
use Rattle.line_text.specs.declared.format.LineFault.{LineFault}
use Rattle.line_text.specs.declared.faults.FaultKind.{FaultKind}
use Rattle.line_text.proofs.reader.read_text.Goals as goal

pub returns-in-Err-At-clause-stands : goal.returns-in-Err-At-clause-stands
returns-in-Err-At-clause-stands g c = λ value stands. subst (λ (f : LineFault FaultKind). Fails {Value = g.F.LineFormat.Meaning} f (Ok value)) c.in-Err-At.field-0-is (c.in-Err-At.ensures.stands value stands)

pub returns-in-Err-At-clause-breaks : goal.returns-in-Err-At-clause-breaks
returns-in-Err-At-clause-breaks g c = λ line kind breaks. subst (λ (f : LineFault FaultKind). Fails {Value = g.F.LineFormat.Meaning} f (Err (line, kind))) c.in-Err-At.field-0-is (c.in-Err-At.ensures.breaks line kind breaks)
