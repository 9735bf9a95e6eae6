use Rattle.graph_core.proofs.from_counting.Common.{◌≡◌, ◌∙◌, None, subst, sym, all_in_true, mem, Within}
use Rattle.graph_core.proofs.Common.{Graph, size}
use Rattle.tight_cuts.proofs.OneSided.{none_parted}
use Rattle.tight_cuts.specs.Common.{first_separated}
use Rattle.tight_cuts.proofs.joining.is_inseparable_by_flood.Goals as goal

pub returns : goal.returns
returns c = λ q.
    subst (λ (g : Graph). first_separated g c.args.e ≡ None) c.graph-g.ensures.same
    (none_parted c.graph-g.result.now c.keeps_limits.ensures.multigraph.ends c.args.e (subst (λ (g : Graph). Within (size g) c.args.e) (sym c.graph-g.ensures.same) c.requires.edge) (mem c.in_ok-reach.reach) c.in_ok-reach.ensures
    (λ v w n m. all_in_true c.without_ends-others.result (mem c.in_ok-reach.reach) (sym c.is_subset.ensures ∙ q) v (c.without_ends-others.ensures v w n m)))
