use Rattle.graph_core.proofs.from_counting.Common.{◌∙◌, ap, subst, sym, same_Some, Within, mem}
use Rattle.tight_cuts.specs.Common.{IsCommonShore}
use Rattle.tight_cuts.proofs.EdgePieces.{whole_shore}
use Rattle.tight_cuts.proofs.EdgeShores.{ends_within}
use Rattle.tight_cuts.proofs.inseparable.are_whole.Goals as goal

pub returns-in-None-clause-whole : goal.returns-in-None-clause-whole
returns-in-None-clause-whole c q =
    let w = ends_within c.args.g.now c.keeps_limits.ensures.multigraph.ends c.args.groups.a c.args.groups.b c.args.e c.requires.leaders.edge c.requires.leaders.ends in
    whole_shore c.args.g.now c.keeps_limits.ensures.multigraph.ends c.args.groups.a c.args.groups.b c.args.groups.x w.0 w.1 c.requires.x.within c.in_ok-shore.field-0
    (subst (λ j. IsCommonShore c.args.g.now c.args.groups.a c.args.groups.b (c.args.groups.x, j) c.in_ok-shore.field-0) c.requires.y c.in_ok-shore.ensures.shore)
    (λ s h y wy d. ap (λ z. mem z y) (sym (same_Some c.in-Some.shore s (sym c.in-Some.is ∙ h))) ∙ c.in-None.ensures.none y (subst (λ n. Within n y) (sym c.order.ensures.is) wy) d)
