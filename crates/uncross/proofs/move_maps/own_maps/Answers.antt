use Rattle.std.proofs.Common.{◌∙◌, arith}
use Rattle.std.specs.Vec.Iter.{into_iter_items}
use Rattle.tree_core.proofs.Common.{shape_of}
use Rattle.uncross.proofs.OwnMaps.{own-first, own-next}
use Rattle.uncross.proofs.move_maps.own_maps.Goals as goal

pub leaves-init : goal.leaves-init
leaves-init c = own-first c.args.n (shape_of c.args.tree.now) c.new-maps.result (into_iter_items c.into_iter-rest.result) c.new-maps.ensures (c.into_iter-rest.ensures.rest ∙ c.into_items.ensures ∙ c.in_ok-leaves.ensures)

pub leaves-preserved : goal.leaves-preserved
leaves-preserved c = grind (arith, own-next)
