use Rattle.std.proofs.Common.{◌≡◌, ◌++◌, string_bytes}
use Rattle.report_text.specs.Common.{adjacent_lines}
use Rattle.report_text.proofs.derivations.push_pairs.Given as goal

-- the lines of the first edges of the quotient are written
abbrev pub invariant-loop-i : goal.invariant-loop-i
invariant-loop-i l = string_bytes l.text ≡ string_bytes l.fn.text ++ adjacent_lines l.g l.p.blocks l.i
