use Rattle.std.proofs.Common.{◌≡◌, ◌++◌}
use Rattle.allowed_edges.specs.from_match_search.Common.{numbers}
use Rattle.mcg6_lines.specs.MatchingLines.{pairs_text}
use Rattle.mcg6_lines.proofs.matching_lines.push_pairs.Given as goal

-- the edges from the vertices so far are written
abbrev pub invariant-loop-done : goal.invariant-loop-done
invariant-loop-done l = l.line.items ≡ l.fn.line.items ++ pairs_text (numbers l.mate) l.done
