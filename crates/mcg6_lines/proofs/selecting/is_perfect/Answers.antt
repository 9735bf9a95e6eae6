use Rattle.std.proofs.Common.{arith}
use Rattle.mcg6_lines.proofs.selecting.is_perfect.Goals.{in-Some, in-None}
use Rattle.mcg6_lines.proofs.selecting.is_perfect.Goals as goal

pub returns : goal.returns
returns c = elim c.match-branch-2.branch [
  | in-Some w ↦ rw w.result-is (let perfect = rw c.empty.ensures at (c.in_ok-perfect_without.ensures.perfect w.in-Some.field-0 w.in-Some.is) in (_, perfect))
  | in-None w ↦ grind (arith, w.result-is)
]
