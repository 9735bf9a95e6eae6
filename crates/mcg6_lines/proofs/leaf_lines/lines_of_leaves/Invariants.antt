use Rattle.std.proofs.Common.{◌≡◌, ◌++◌, ℕ, List, drop, map}
use Rattle.graph_core.proofs.Common.{Graph}
use Rattle.tree_core.proofs.Common.{place_of}
use Rattle.mcg6_lines.specs.LeafLines.{leaf_lines}
use Rattle.mcg6_lines.proofs.leaf_lines.lines_of_leaves.Given as goal

-- what is written and the lines of the leaves from the place on are all lines
abbrev pub invariant-loop-i : goal.invariant-loop-i
invariant-loop-i l = (g : Graph) (ps : List (List (List ℕ))) → l.leaves ≡ map (place_of g) ps →
    l.lines.items ++ leaf_lines l.front g (drop l.i ps) (drop l.i l.kinds.items) ≡ leaf_lines l.front g ps l.kinds.items
