use Rattle.std.proofs.Common.{◌≡◌, map, take}
use Rattle.uncross.specs.Common.{image_name}
use Rattle.uncross.proofs.block_images.image_names.Given as goal

abbrev pub invariant-loop-i : goal.invariant-loop-i
invariant-loop-i l = l.names ≡ map (image_name l.p.order l.images) (take l.i l.p.blocks)
