use Rattle.mcg6_lines.proofs.Components.{number_counted}
use Rattle.mcg6_lines.proofs.elementary_lines.number_in.Goals as goal

pub returns : goal.returns
returns c =
    number_counted 128 c.args.v c.len.result c.full.result c.args.part c.meet-below.result c.rises.ensures
    (λ w. (c.full.ensures.members w).0) (λ w. (c.full.ensures.members w).1) c.meet-below.ensures c.len.ensures
