use Rattle.uncross.proofs.BlockImages.{part-is}
use Rattle.uncross.proofs.block_images.part_within.Goals as goal

pub returns : goal.returns
returns c = part-is c.args.n c.args.x c.full.result c.meet-part.result c.full.ensures.members c.rises.ensures c.meet-part.ensures
