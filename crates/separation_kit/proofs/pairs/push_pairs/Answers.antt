use Rattle.std.proofs.Common.{arith, map}
use Rattle.graph_core.specs.Common.{pair_of}
use Rattle.separation_kit.proofs.PairSearch.{first_row}
use Rattle.separation_kit.proofs.pairs.push_pairs.Goals as goal

pub loop-k-init : goal.loop-k-init
loop-k-init c = record { from = omega arith; pairs = first_row c.args.a (map pair_of c.args.pairs.now.items) }
