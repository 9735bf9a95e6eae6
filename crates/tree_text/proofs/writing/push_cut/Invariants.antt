use Rattle.std.proofs.Common.{◌≡◌, ◌++◌, codes, length, map, string_bytes, decimal}
use Rattle.graph_core.proofs.from_line_text.WrittenLines.{spaced}
use Rattle.tree_text.proofs.writing.push_cut.Given as goal

-- what is written and the vertices left make the whole line
abbrev pub invariant-vertices : goal.invariant-vertices
invariant-vertices l = string_bytes l.fn.text ++ (codes "cut" ++ spaced (map decimal l.fn.shore)) ≡ string_bytes l.text ++ spaced (map decimal l.rest)

abbrev pub decreases-vertices : goal.decreases-vertices
decreases-vertices l = length l.rest
