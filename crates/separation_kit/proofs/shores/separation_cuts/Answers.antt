use Rattle.std.proofs.Common.{arith}
use Rattle.separation_kit.proofs.PairSearch.{pair_within}
use Rattle.separation_kit.proofs.PairShores.{shores-all, shores-passed, shores-taken}
use Rattle.separation_kit.proofs.shores.separation_cuts.Goals.{then-is_cut_pair+in_ok-add_pair_cuts, else-is_cut_pair}
use Rattle.separation_kit.proofs.shores.separation_cuts.Goals as goal

pub is_cut_pair-requires-clause-pair : goal.is_cut_pair-requires-clause-pair
is_cut_pair-requires-clause-pair c = grind (arith, pair_within)

pub add_pair_cuts-requires-clause-first : goal.add_pair_cuts-requires-clause-first
add_pair_cuts-requires-clause-first c = grind (arith, pair_within)

pub add_pair_cuts-requires-clause-second : goal.add_pair_cuts-requires-clause-second
add_pair_cuts-requires-clause-second c = grind (arith, pair_within)

pub loop-pair-preserved : goal.loop-pair-preserved
loop-pair-preserved c = grind (arith, then-is_cut_pair+in_ok-add_pair_cuts, shores-taken, else-is_cut_pair, shores-passed)

pub returns : goal.returns
returns c = grind (arith, shores-all)
