use Rattle.std.proofs.Common.{arith, rules}
use Rattle.tree_core.proofs.KindsOfLeaves.{kinds-all, kinds-next}
use Rattle.tree_core.proofs.tallies.leaf_kinds.Goals as goal

pub loop-i-init : goal.loop-i-init
loop-i-init c = record { so_many = search rules; right = λ j w. absurd (omega arith) }

pub loop-i-preserved : goal.loop-i-preserved
loop-i-preserved c = grind (arith, kinds-next)

pub returns : goal.returns
returns c = kinds-all c.args.g.now c.args.leaves.now c.loop-i.i c.loop-i.kinds.items (omega arith) c.loop-i.invariant.so_many c.loop-i.invariant.right
