use Rattle.std.proofs.Common.{[], ◌∷◌, refl}
use Rattle.tree_core.proofs.Common.{moves_of, shape_of}
use Rattle.bench_reports.proofs.FaultsPlaced.{tree-moves}
use Rattle.bench_reports.proofs.replaying.replay_report.Goals as goal

pub returns-in-Some-clause-placed : goal.returns-in-Some-clause-placed
returns-in-Some-clause-placed c =
    let refused = rw c.in-Some.is at c.in_ok-report.ensures.placed (shape_of c.args.tree ∷ []) refl in
    tree-moves c.args.g.now.order (shape_of c.args.tree) (moves_of c.args.moves.now) c.in-Some.report.refusal refused
