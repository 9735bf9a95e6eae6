use Rattle.std.proofs.Common.{◌≡◌, ◌++◌, ℕ, List, map, string_bytes}
use Rattle.graph_core.proofs.Common.{Graph}
use Rattle.move_text.proofs.from_tree_core.Common.{place_of}
use Rattle.report_text.specs.Common.{numbered_leaf_lines}
use Rattle.report_text.proofs.derivations.push_places.Given as goal

-- the lines of the first leaves are written
abbrev pub invariant-loop-i : goal.invariant-loop-i
invariant-loop-i l = (g : Graph) (ps : List (List (List ℕ))) → l.leaves ≡ map (place_of g) ps → string_bytes l.text ≡ string_bytes l.fn.text ++ numbered_leaf_lines g ps l.kinds l.i
