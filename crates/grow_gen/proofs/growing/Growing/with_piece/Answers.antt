use Rattle.std.proofs.Common.{arith}
use Rattle.grow_gen.proofs.OnePiece.{with_piece-parts}
use Rattle.grow_gen.proofs.growing.Growing.with_piece.Goals as goal

pub returns : goal.returns
returns c = grind (arith, with_piece-parts)
