-- The tree is a derivation, the moves left lead on from it, and the maps so far are those of the
-- moves made.
use Rattle.std.proofs.Common.{length}
use Rattle.tree_core.proofs.Common.{moves_of, shape_of}
use Rattle.uncross.proofs.ScriptSteps.{Remains}
use Rattle.uncross.specs.Common.{maps_of}
use Rattle.uncross.proofs.move_maps.script_maps.Given as goal

abbrev pub invariant-moves : goal.invariant-moves
invariant-moves l = Remains l.g (shape_of l.tree) (shape_of l.current) (moves_of l.moves) (moves_of l.rest) (maps_of l.maps)

-- the moves left
abbrev pub decreases-moves : goal.decreases-moves
decreases-moves l = length l.rest
