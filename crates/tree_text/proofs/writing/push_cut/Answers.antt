use Rattle.std.proofs.Common.{string_bytes}
use Rattle.tree_text.proofs.TextSoFar.{cut_line}
use Rattle.tree_text.proofs.writing.push_cut.Goals as goal

pub returns : goal.returns
returns c =
    cut_line (string_bytes c.args.text.now) (string_bytes c.vertices.text) (string_bytes c.write-2.new.self) c.args.shore c.vertices.rest c.in_default.ensures.none c.vertices.invariant c.in_ok-write-3.ensures.bytes
