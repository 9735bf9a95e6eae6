use Rattle.std.proofs.Common.{◌≡◌, ◌++◌, map, take, string_bytes}
use Rattle.graph_core.specs.from_line_text.Common.{written}
use Rattle.graph_text.specs.Common.{name_words}
use Rattle.graph_text.proofs.writing.push_names.Given as goal

-- the lines of the first names are written
abbrev pub invariant-loop-k : goal.invariant-loop-k
invariant-loop-k l = string_bytes l.text ≡ string_bytes l.fn.text ++ written (map name_words (take l.k l.names))
