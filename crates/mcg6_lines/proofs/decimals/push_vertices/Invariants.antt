use Rattle.std.proofs.Common.{◌≡◌, ◌++◌, length}
use Rattle.report_text.specs.Common.{numbers_text}
use Rattle.mcg6_lines.proofs.decimals.push_vertices.Given as goal

abbrev pub invariant-writing : goal.invariant-writing
invariant-writing l = l.fn.lines.items ++ numbers_text l.fn.part ≡ l.lines.items ++ numbers_text l.rest

abbrev pub decreases-writing : goal.decreases-writing
decreases-writing l = length l.rest
