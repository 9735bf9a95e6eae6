use Rattle.std.proofs.Common.{sym, arith}
use Rattle.tree_core.proofs.SwitchSets.{not-covered, outside-is}
use Rattle.tree_core.proofs.switched_shores.covers_outside.Goals as goal

pub returns-then-n-gt-MOST_VERTICES : goal.returns-then-n-gt-MOST_VERTICES
returns-then-n-gt-MOST_VERTICES c = sym (not-covered c.args.n c.args.v c.args.x c.rises.ensures c.requires (let z = c.if-n-gt-MOST_VERTICES.true in omega arith))

pub returns : goal.returns
returns c = grind (arith, outside-is c.args.n c.args.x c.outside_within.result c.outside_within.ensures.rising)
