use Rattle.std.proofs.Math.Logic.{∥∥₁_elim}
use Rattle.graph_core.proofs.Common.{size}
use Rattle.tree_core.proofs.Common.{shape_of}
use Rattle.ear_text.specs.from_ear_core.Common.{ears_of}
use Rattle.bench_reports.proofs.GivenFacts.{ears-fit_prop, tree-fits_prop}
use Rattle.bench_reports.proofs.judging.report_of.Goals as goal

pub check_report-requires : goal.check_report-requires
check_report-requires c = let given = c.in-OnTree-Check-default.given in ∥∥₁_elim given.fits (tree-fits_prop given.named.graph.order (shape_of given.tree)) (λ fits. fits)

pub checkears_report-requires : goal.checkears_report-requires
checkears_report-requires c = let given = c.in-OnEars-CheckEars-default.given in ∥∥₁_elim given.fits (ears-fit_prop given.named.graph.order (size given.named.graph) (ears_of given.list)) (λ fits. fits)

pub replay_report-requires-clause-fits : goal.replay_report-requires-clause-fits
replay_report-requires-clause-fits c = let given = c.in-OnMoves-Replay-default.given in ∥∥₁_elim given.fits (tree-fits_prop given.named.graph.order (shape_of given.tree)) (λ fits. fits)
