use Rattle.std.proofs.Common.{◌≡◌, ◌++◌, length, string_bytes}
use Rattle.report_text.specs.Common.{class_lines}
use Rattle.report_text.proofs.structures.push_class_lines.Given as goal

abbrev pub invariant-writing : goal.invariant-writing
invariant-writing l = string_bytes l.fn.text ++ class_lines l.fn.classes ≡ string_bytes l.text ++ class_lines l.rest

abbrev pub decreases-writing : goal.decreases-writing
decreases-writing l = length l.rest
