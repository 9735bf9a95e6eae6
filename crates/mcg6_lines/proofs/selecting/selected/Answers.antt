use Rattle.std.proofs.Common.{arith}
use Rattle.mcg6_lines.proofs.selecting.selected.Goals as goal

pub returns-then-branch : goal.returns-then-branch
returns-then-branch c = grind arith
