use Rattle.std.proofs.Common.{ℕ, List, ap}
use Rattle.tight_cuts.specs.Common.{candidate_of}
use Rattle.tight_cuts.proofs.at_places.lifted_one.Goals as goal

pub returns : goal.returns
returns c = λ g is. ap (λ (s : List ℕ). record (candidate_of c.args.candidate) { shore = s }) (c.lift_set.ensures g is)
