use Rattle.std.proofs.Common.{arith}
use Rattle.tight_cuts.proofs.ThirdEdges.{odd_inside}
use Rattle.tight_cuts.proofs.quick_tightness.is_odd_in.Goals as goal

pub returns : goal.returns
returns c = odd_inside c.args.g.now.order c.full.result c.args.set c.meet-inside.result c.rises.ensures (grind arith) c.meet-inside.ensures c.len.result c.len.ensures
