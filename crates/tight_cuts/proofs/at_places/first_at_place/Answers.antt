use Rattle.std.proofs.Common.{◌∙◌, ap, sym, arith, option_map}
use Rattle.tight_cuts.specs.Common.{IsCandidateAt, candidates_at, candidate_of}
use Rattle.tight_cuts.proofs.FirstCandidates.{first-empty, first-one}
use Rattle.tight_cuts.proofs.PartitionCandidates.{found-at, none-at}
use Rattle.tight_cuts.proofs.at_places.first_at_place.Goals as goal

pub returns-clause-some : goal.returns-clause-some
returns-clause-some c d is = first-one c.args.place.now.graph (IsCandidateAt c.args.place.now.graph c.args.place.now.blocks) (candidates_at c.args.place.now.graph c.args.place.now.blocks)
    (found-at c.args.place.now.graph c.args.place.now.blocks c.keeps_place.ensures.limits.multigraph.ends c.keeps_place.ensures.partition c.keeps_place.ensures.covered)
    (candidate_of d) (sym c.in_ok-found.ensures ∙ ap (option_map candidate_of) is)

pub returns-clause-none : goal.returns-clause-none
returns-clause-none c = grind (arith, first-empty, none-at)
