use Rattle.graph_core.proofs.from_counting.Common.{sym, subst, All, IsRisingIn}
use Rattle.barrier_kit.proofs.Common.{barrier_cuts-canonical}
use Rattle.graph_core.proofs.Common.{IsCanonicalCut}
use Rattle.tight_cuts.proofs.FrontCandidates.{canonical-rising}
use Rattle.tight_cuts.proofs.front.barrier_candidates.Goals as goal

pub candidates_of-requires-clause-shores : goal.candidates_of-requires-clause-shores
candidates_of-requires-clause-shores c =
    subst (λ n. All (IsRisingIn n) c.in_ok-shores.shores) (sym c.order.ensures.is)
    (canonical-rising c.args.c.now c.in_ok-shores.shores (subst (All (IsCanonicalCut c.args.c.now)) (sym c.in_ok-shores.ensures) (barrier_cuts-canonical c.args.c.now c.keeps_covered.ensures.limits.multigraph.ends c.keeps_covered.ensures.covered)))
