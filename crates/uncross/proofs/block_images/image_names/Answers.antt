use Rattle.std.proofs.Common.{arith}
use Rattle.uncross.specs.Common.{image_name}
use Rattle.uncross.proofs.BlockImages.{named-more}
use Rattle.uncross.proofs.block_images.image_names.Goals as goal

pub loop-i-preserved : goal.loop-i-preserved
loop-i-preserved c = grind (arith, named-more (image_name c.args.p.now.order c.args.images.now) c.args.p.now.blocks c.loop-i.i c.image_name.result c.block.result c.loop-i.names c.push.new.self)
