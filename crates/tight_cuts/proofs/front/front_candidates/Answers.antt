use Rattle.graph_core.proofs.from_counting.Common.{◌≡◌, List, sym, subst, ap, ◌∙◌, arith, map, option_map, IfOk-weaker}
use Rattle.barrier_kit.proofs.Common.{bicritical_no_cuts}
use Rattle.graph_core.proofs.Common.{Graph, IsBicritical, pair_of}
use Rattle.quick_kinds.proofs.from_separation_kit.SeparationFacts.{equivalent-none}
use Rattle.quick_kinds.specs.from_separation_kit.Common.{separation_cuts}
use Rattle.tight_cuts.specs.Common.{Candidate, Separation, candidate_at, front_candidates}
use Rattle.tight_cuts.proofs.FrontCandidates.{front-barriers, front-separations, order-small, equivalent-some}
use Rattle.tight_cuts.proofs.front.front_candidates.Goals as goal

pub separation_candidates-requires-clause-bicritical : goal.separation_candidates-requires-clause-bicritical
separation_candidates-requires-clause-bicritical c =
    subst (λ (g : Graph). IsBicritical g) (sym c.covered-2.ensures) ((equivalent-none c.args.pairs.now).0 (sym c.equivalent.ensures ∙ ap (option_map pair_of) c.in_default.is))

pub returns : goal.returns
returns c = IfOk-weaker c.separation_candidates.result (λ (list : List Candidate). list ≡ map (candidate_at c.covered-2.result.now.order Separation) (separation_cuts c.covered-2.result.now)) (λ (list : List Candidate). list ≡ front_candidates c.args.pairs.now)
    (λ list q. q ∙ ap (λ (g : Graph). map (candidate_at g.order Separation) (separation_cuts g)) c.covered-2.ensures ∙ front-separations c.args.pairs.now (bicritical_no_cuts c.args.pairs.now c.keeps_covered.ensures.limits.multigraph.ends c.keeps_covered.ensures.covered ((equivalent-none c.args.pairs.now).0 (sym c.equivalent.ensures ∙ ap (option_map pair_of) c.in_default.is))))
    c.separation_candidates.ensures

pub returns-in-Some : goal.returns-in-Some
returns-in-Some c = grind (arith, front-barriers, equivalent-some)

pub returns-then-order-lt4 : goal.returns-then-order-lt4
returns-then-order-lt4 c = grind (arith, front-barriers c.args.pairs.now, order-small c.args.pairs.now)
