use Rattle.std.proofs.Common.{◌≡◌, ◌++◌, map, length}
use Rattle.tree_core.proofs.Common.{below, moves_of}
use Rattle.uncross.proofs.turning.append_below.Given as goal

-- the moves appended and those left are all
abbrev pub invariant-moves : goal.invariant-moves
invariant-moves l = moves_of l.into ++ map (below l.side) (moves_of l.rest) ≡ moves_of l.initial.into ++ map (below l.side) (moves_of l.moves)

abbrev pub decreases-moves : goal.decreases-moves
decreases-moves l = length l.rest
