use Rattle.std.proofs.Common.{arith}
use Rattle.uncross.proofs.BlockImages.{kept-is}
use Rattle.uncross.proofs.block_images.kept_images.Goals as goal

pub returns : goal.returns
returns c = grind (arith, kept-is c.args.n c.args.x c.args.u c.args.v c.minus_of-rest.result c.minus_of.result c.union_of.result c.union_of-2.result)
