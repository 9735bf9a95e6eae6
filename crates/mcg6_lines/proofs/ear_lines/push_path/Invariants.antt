use Rattle.std.proofs.Common.{◌≡◌, ◌++◌, All, length}
use Rattle.allowed_edges.proofs.from_counting.Common.{Within}
use Rattle.ear_core.specs.Common.{ear_of}
use Rattle.graph_core.proofs.Common.{size}
use Rattle.mcg6_lines.specs.EarLines.{path_text}
use Rattle.mcg6_lines.proofs.EarTexts.{along}
use Rattle.mcg6_lines.proofs.ear_lines.push_path.Given as goal

-- what is written and the vertices along the edges left make the whole ear
abbrev pub invariant-edges : goal.invariant-edges
invariant-edges l = record {
  within : All (Within (size l.g)) l.rest;
  whole : l.fn.line.items ++ path_text l.g (ear_of l.fn.ear) ≡ l.line.items ++ along l.g l.v l.rest;
}

abbrev pub decreases-edges : goal.decreases-edges
decreases-edges l = length l.rest
