use Rattle.std.proofs.Common.{◌∙◌, ap, sym, arith, option_map}
use Rattle.tight_cuts.specs.Common.{front_candidates, candidate_of}
use Rattle.tight_cuts.proofs.FirstCandidates.{first-front, first-nil}
use Rattle.tight_cuts.proofs.FrontEmpty.{front_empty}
use Rattle.tight_cuts.proofs.finder.first_after.Goals as goal

pub returns-in-Some : goal.returns-in-Some
returns-in-Some c = sym (first-front c.args.c.now (candidate_of c.in-Some.first) (sym c.requires ∙ ap (option_map candidate_of) c.in-Some.is))

pub first_of_bipartite-requires : goal.first_of_bipartite-requires
first_of_bipartite-requires c = ap front_candidates (c.of.ensures.some c.in-Some-of.bipartite c.in-Some-of.is) ∙ first-nil (front_candidates c.args.c.now) (sym (ap (option_map candidate_of) c.in_default.is) ∙ c.requires)

pub returns-in-None : goal.returns-in-None
returns-in-None c = grind (arith, front_empty, first-nil)
