use Rattle.std.proofs.Common.{take}
use Rattle.tree_core.proofs.Common.{TurnsThrough, moves_of, shape_of}
use Rattle.tree_check.proofs.replaying.replay_covered.Given as goal

-- the first moves turn the tree through derivations into the one that is reached
abbrev pub invariant-loop-i : goal.invariant-loop-i
invariant-loop-i l = TurnsThrough l.c (shape_of l.fn.tree) (moves_of (take l.i l.moves)) (shape_of l.reached)
