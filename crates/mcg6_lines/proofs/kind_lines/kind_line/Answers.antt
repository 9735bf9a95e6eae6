use Rattle.std.proofs.Common.{append_assoc, ◌∙◌}
use Rattle.mcg6_lines.specs.KindLines.{kind_line}
use Rattle.mcg6_lines.proofs.kind_lines.kind_line.Goals as goal

pub returns : goal.returns
unfolding kind_line
returns c =
    let told = c.in_ok-push_standing.ensures in
    record {
      words = told.0;
      right = told.1;
      line = c.in_ok-push.ensures.items ∙ simp (append_assoc, told.2, c.in_ok-push_number-2.ensures, c.in_ok-push_number.ensures, c.in_ok-extend_from_slice.ensures.items, c.in_ok-line.ensures.items, c.bare_text.ensures c.args.g.now c.requires, c.order.ensures.is, c.size.ensures.is);
    }
