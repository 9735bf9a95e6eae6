use Rattle.quick_kinds.proofs.from_separation_kit.SeparationFacts.{separation_cuts-canonical}
use Rattle.quick_kinds.specs.from_separation_kit.Common.{separation_cuts}
use Rattle.tight_cuts.specs.Common.{Separation, candidate_of}
use Rattle.std.specs.Option.{option_map}
use Rattle.tight_cuts.proofs.FrontCandidates.{first_cut-candidate, first_cut-rises}
use Rattle.tight_cuts.proofs.front.first_separation_candidate.Goals as goal

pub as_candidate-requires-clause-rising : goal.as_candidate-requires-clause-rising
as_candidate-requires-clause-rising c =
    first_cut-rises c.args.pairs.now c.order.result c.order.ensures.is (separation_cuts c.args.pairs.now) c.in_ok-cut.cut c.in_ok-cut.ensures (separation_cuts-canonical c.args.pairs.now c.keeps_covered.ensures.limits.multigraph.ends c.keeps_covered.ensures.covered)

pub returns : goal.returns
returns c = first_cut-candidate c.args.pairs.now c.order.result c.order.ensures.is (separation_cuts c.args.pairs.now) c.in_ok-cut.cut c.in_ok-cut.ensures Separation (option_map candidate_of c.as_candidate.result) c.as_candidate.ensures
