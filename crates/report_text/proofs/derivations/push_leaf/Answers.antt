use Rattle.std.proofs.Common.{string_bytes, arith}
use Rattle.report_text.proofs.WrittenLines.{leaf_text-written}
use Rattle.report_text.proofs.derivations.push_leaf.Goals as goal

pub returns : goal.returns
returns c = grind (arith, leaf_text-written, string_bytes c.args.text.now, string_bytes c.push_leaf_line.new.text, string_bytes c.push_blocks.new.text, string_bytes c.push_pairs.new.text)
