use Rattle.std.proofs.Common.{sym, arith}
use Rattle.tree_core.proofs.SwitchSets.{mem-past}
use Rattle.tree_core.proofs.switched_shores.holds_greatest.Goals as goal

pub returns-then-n-lt1 : goal.returns-then-n-lt1
returns-then-n-lt1 c = sym (mem-past c.args.v c.args.n c.rises.ensures (λ w. let z = c.if-n-lt1.true in omega arith))

pub returns-then-n-gt-MOST_VERTICES : goal.returns-then-n-gt-MOST_VERTICES
returns-then-n-gt-MOST_VERTICES c = sym (mem-past c.args.v c.args.n c.rises.ensures (λ w. let z = c.if-n-gt-MOST_VERTICES.true in omega arith))
