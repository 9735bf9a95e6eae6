use Rattle.std.proofs.Common.{◌≡◌, ◌++◌, drop}
use Rattle.mcg6_lines.specs.Elementary.{component_lines}
use Rattle.mcg6_lines.proofs.elementary_lines.lines_of_parts.Given as goal

-- what is written and the lines of the components from the place on are all lines
abbrev pub invariant-loop-i : goal.invariant-loop-i
invariant-loop-i l = l.lines.items ++ component_lines l.number l.g (drop l.i l.parts) ≡ component_lines l.number l.g l.parts
