use Rattle.graph_core.proofs.from_counting.Common.{refl, subst, sym, IsRisingIn}
use Rattle.graph_core.proofs.Common.{complement_of-rises}
use Rattle.tree_core.proofs.Common.{is-complement}
use Rattle.uncross.proofs.plans.complement.Goals as goal

pub returns-clause-list : goal.returns-clause-list
returns-clause-list c = is-complement 128 c.args.n c.args.n c.full.result c.args.x c.minus-outside.result c.requires refl c.full.ensures.list c.rises.ensures c.minus-outside.ensures

pub returns-clause-rising : goal.returns-clause-rising
returns-clause-rising c =
    subst (IsRisingIn c.args.n) (sym (is-complement 128 c.args.n c.args.n c.full.result c.args.x c.minus-outside.result c.requires refl c.full.ensures.list c.rises.ensures c.minus-outside.ensures)) (complement_of-rises c.args.n c.args.x)
