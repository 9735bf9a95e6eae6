use Rattle.std.proofs.Common.{add-one, arith}
use Rattle.report_text.proofs.LeafLines.{places-all, places-more}
use Rattle.report_text.proofs.derivations.push_places.Goals as goal

pub loop-i-preserved : goal.loop-i-preserved
loop-i-preserved c = λ g ps are. grind (arith, add-one, places-more g ps c.args.leaves.now c.args.kinds.now c.loop-i.i c.index-leaves-i.result, c.loop-i.invariant g ps are)

pub returns : goal.returns
returns c = λ g ps are. grind (arith, places-all g ps c.args.leaves.now are, c.loop-i.invariant g ps are)
