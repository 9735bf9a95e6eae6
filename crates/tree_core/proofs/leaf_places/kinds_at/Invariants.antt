use Rattle.std.proofs.Common.{◌≡◌, ℕ, List, map, take}
use Rattle.graph_core.proofs.Common.{Graph}
use Rattle.tree_core.specs.Common.{AreLeafKinds, place_of}
use Rattle.tree_core.proofs.leaf_places.kinds_at.Given as goal

-- the kinds of the first leaves are known
abbrev pub invariant-loop-place : goal.invariant-loop-place
invariant-loop-place l = (g : Graph) (ps : List (List (List ℕ))) → l.leaves ≡ map (place_of g) ps → AreLeafKinds g (take l.place-index ps) l.kinds.items
