use Rattle.std.proofs.Common.{◌∙◌, ap, sym, arith, option_map}
use Rattle.graph_core.proofs.Common.{Graph}
use Rattle.tight_cuts.specs.Common.{IsTightCandidate, candidates, first_of, candidate_of}
use Rattle.tight_cuts.proofs.Completeness.{candidates_found, candidates_none}
use Rattle.tight_cuts.proofs.FirstCandidates.{first-empty, first-one}
use Rattle.tight_cuts.proofs.finder.first_candidate.Goals as goal

pub returns-clause-some : goal.returns-clause-some
returns-clause-some c d is = first-one c.args.pairs.now (IsTightCandidate c.args.pairs.now) (candidates c.args.pairs.now)
    (candidates_found c.args.pairs.now c.keeps_covered.ensures.limits.multigraph.ends c.keeps_covered.ensures.covered)
    (candidate_of d) (sym (c.in_ok-found.ensures ∙ ap (λ (g : Graph). first_of (candidates g)) c.covered.ensures) ∙ ap (option_map candidate_of) is)

pub returns-clause-none : goal.returns-clause-none
returns-clause-none c = grind (arith, first-empty, candidates_none)
