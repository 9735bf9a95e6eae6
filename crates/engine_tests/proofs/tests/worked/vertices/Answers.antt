use Rattle.tree_check.proofs.from_counting.Common.{sym, ◌∙◌, arith, is_subset, mem, all_in_true, set-narrower}
use Rattle.engine_tests.proofs.tests.worked.vertices.Goals as goal

pub returns-then-is_subset : goal.returns-then-is_subset
returns-then-is_subset c = set-narrower 128 c.args.g.now.order c.args.set c.rises.ensures (λ v m. let n = c.order.ensures.is in
    let w = ((c.full.ensures.members v).0 (all_in_true c.args.set (mem c.full.result) (sym c.is_subset.ensures ∙ c.if-is_subset.true) v m)) in omega arith)
