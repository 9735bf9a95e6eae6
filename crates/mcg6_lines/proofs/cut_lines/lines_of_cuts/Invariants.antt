use Rattle.std.proofs.Common.{◌≡◌, ◌++◌, drop}
use Rattle.mcg6_lines.specs.CutLines.{cut_lines}
use Rattle.mcg6_lines.proofs.cut_lines.lines_of_cuts.Given as goal

-- what is written and the lines of the candidates from the place on are all lines
abbrev pub invariant-loop-i : goal.invariant-loop-i
invariant-loop-i l = l.lines.items ++ cut_lines l.front (drop l.i l.list) ≡ cut_lines l.front l.list
