use Rattle.std.proofs.Common.{[], ◌∷◌, refl}
use Rattle.tree_core.proofs.Common.{shape_of}
use Rattle.bench_reports.proofs.comparing.refusal_of_covered.Goals as goal

pub returns-in-Some-clause-placed : goal.returns-in-Some-clause-placed
returns-in-Some-clause-placed c = rw c.in-Some.is at c.in_ok-report.ensures.placed (shape_of c.args.first.now ∷ shape_of c.args.second.now ∷ []) refl

pub returns-clause-placed : goal.returns-clause-placed
returns-clause-placed c = c.refusal_where_covered-in-None.ensures.placed (shape_of c.args.first.now ∷ shape_of c.args.second.now ∷ []) refl
