use Rattle.uncross.proofs.BlockImages.{moved-name}
use Rattle.uncross.proofs.block_images.image_name.Goals as goal

pub returns-in-Moved : goal.returns-in-Moved
returns-in-Moved c =
    moved-name c.args.n _ c.args.images.now _ _ _ _ _ c.args.block _ _ _ _ _ _ _ c.in-Moved.is c.meet_of-stays.ensures c.is_subset.ensures c.set_if-inner.ensures c.is_subset-in-Moved.ensures
    c.set_if-outer.ensures c.union_of.ensures c.union_of-in-Moved.ensures c.name_of-in-Moved.ensures
