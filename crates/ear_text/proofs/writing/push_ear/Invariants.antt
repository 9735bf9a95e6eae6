use Rattle.std.proofs.Common.{◌≡◌, ◌++◌, ◌∷◌, length, map, string_bytes, decimal}
use Rattle.graph_core.proofs.from_line_text.WrittenLines.{spaced}
use Rattle.ear_text.proofs.writing.push_ear.Given as goal

-- what is written and the edges left make the whole line
abbrev pub invariant-edges : goal.invariant-edges
invariant-edges l = string_bytes l.fn.text ++ (l.fn.keyword ++ spaced (map decimal (l.fn.ear.«from» ∷ l.fn.ear.edges))) ≡ string_bytes l.text ++ spaced (map decimal l.rest)

abbrev pub decreases-edges : goal.decreases-edges
decreases-edges l = length l.rest
