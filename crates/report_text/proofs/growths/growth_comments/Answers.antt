use Rattle.std.proofs.Common.{List, ℕ, ◌++◌, ap, ◌∙◌, codes}
use Rattle.report_text.specs.Common.{order_line, pairs_line}
use Rattle.report_text.proofs.growths.growth_comments.Goals as goal

pub returns : goal.returns
returns c =
    c.in_ok-push_pairs.ensures
    ∙ ap (λ (t : List ℕ). t ++ pairs_line c.args.pairs) (c.in_ok-push_order-2.ensures
    ∙ ap (λ (t : List ℕ). t ++ order_line (codes "last") c.args.last) (c.in_ok-push_order.ensures ∙ ap (λ (t : List ℕ). t ++ order_line (codes "first") c.args.first) c.new-comments.ensures.bytes))
