use Rattle.std.proofs.Common.{arith, subst, sym, take}
use Rattle.tree_core.specs.Common.{AreLeafKinds}
use Rattle.tree_core.proofs.LeafPlaces.{kinds-further, kinds-of_all, no-kinds}
use Rattle.tree_core.proofs.leaf_places.kinds_at.Goals as goal

pub loop-place-init : goal.loop-place-init
loop-place-init c g ps are = subst (AreLeafKinds g (take 0 ps)) (sym c.new-kinds.ensures.items) (no-kinds g ps)

pub loop-place-preserved : goal.loop-place-preserved
loop-place-preserved c g ps are = grind (arith, kinds-further)

pub returns : goal.returns
returns c g ps are = kinds-of_all g ps c.args.leaves.now c.loop-place.place-index c.loop-place.kinds.items are (omega arith) (c.loop-place.invariant g ps are)
