use Rattle.std.proofs.Common.{◌≡◌, ◌++◌, map, take, string_bytes}
use Rattle.graph_core.specs.from_line_text.Common.{written}
use Rattle.graph_text.specs.Common.{edge_words}
use Rattle.graph_text.proofs.writing.push_edges.Given as goal

-- the lines of the first edges are written
abbrev pub invariant-loop-i : goal.invariant-loop-i
invariant-loop-i l = string_bytes l.text ≡ string_bytes l.fn.text ++ written (map edge_words (take l.i l.g.ends))
