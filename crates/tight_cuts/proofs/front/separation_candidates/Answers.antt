use Rattle.graph_core.proofs.from_counting.Common.{◌∙◌, ap, sym, subst, All, arith, IsRisingIn}
use Rattle.quick_kinds.proofs.from_separation_kit.SeparationFacts.{separation_cuts-canonical}
use Rattle.graph_core.proofs.Common.{IsCanonicalCut, Graph, IsBicritical}
use Rattle.quick_kinds.specs.from_separation_kit.Common.{separation_cuts}
use Rattle.tight_cuts.proofs.FrontCandidates.{canonical-rising}
use Rattle.tight_cuts.proofs.front.separation_candidates.Goals as goal

pub separation_cuts-requires-clause-bicritical : goal.separation_cuts-requires-clause-bicritical
separation_cuts-requires-clause-bicritical c = subst (λ (g : Graph). IsBicritical g) (sym c.graph.ensures.same) c.requires.bicritical

pub candidates_of-requires-clause-shores : goal.candidates_of-requires-clause-shores
candidates_of-requires-clause-shores c =
    subst (λ n. All (IsRisingIn n) c.in_ok-shores.shores) (sym c.order.ensures.is)
    (canonical-rising c.args.c.now c.in_ok-shores.shores (subst (All (IsCanonicalCut c.args.c.now)) (sym (c.in_ok-shores.ensures ∙ ap separation_cuts c.graph.ensures.same)) (separation_cuts-canonical c.args.c.now c.keeps_covered.ensures.limits.multigraph.ends c.keeps_covered.ensures.covered)))

pub returns : goal.returns
returns c = grind arith
