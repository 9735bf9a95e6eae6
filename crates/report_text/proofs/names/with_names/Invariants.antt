use Rattle.std.proofs.Common.{◌≡◌, ◌++◌}
use Rattle.report_text.specs.Common.{name_lines}
use Rattle.report_text.proofs.names.with_names.Given as goal

-- the report and the lines of the first names are written
abbrev pub invariant-loop-i : goal.invariant-loop-i
invariant-loop-i l = l.text.items ≡ l.fn.report ++ name_lines l.comments l.names l.i
