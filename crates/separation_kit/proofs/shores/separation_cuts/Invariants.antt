use Rattle.std.proofs.Common.{◌≡◌, [], filter, flat_map, fold, map, take}
use Rattle.graph_core.proofs.Common.{with_cut, pair_of}
use Rattle.separation_kit.specs.Common.{is_cut_pair, shores_at_pair}
use Rattle.separation_kit.proofs.shores.separation_cuts.Given as goal

abbrev pub invariant-loop-pair : goal.invariant-loop-pair
invariant-loop-pair l = l.cuts ≡ fold (with_cut l.g.order) [] (flat_map (shores_at_pair l.g) (filter (is_cut_pair l.g) (take l.pair-index (map pair_of l.pair-items))))
