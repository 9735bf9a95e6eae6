use Rattle.move_text.proofs.from_counting.Common.{◌≡◌, map, subst, inl, IfOk-weaker}
use Rattle.graph_core.proofs.Common.{Graph}
use Rattle.graph_text.specs.Common.{named_graph}
use Rattle.tree_core.proofs.Common.{IsDerivation, leaves, place_of, shape_of}
use Rattle.bench_outcomes.specs.from_decomposer.Common.{IsPicked}
use Rattle.bench_outcomes.specs.Common.{DecomposeGives, TellsDerivation}
use Rattle.bench_outcomes.specs.declared.report.Report.{Report}
use Rattle.bench_reports.proofs.decomposing.covered_report.Goals as goal

pub derivation_report-requires-clause-derivation : goal.derivation_report-requires-clause-derivation
derivation_report-requires-clause-derivation t c = subst (λ (g : Graph). IsDerivation g (shape_of c.in_ok-found.found.tree)) c.requires c.in_ok-found.ensures.derivation

pub derivation_report-requires-clause-leaves : goal.derivation_report-requires-clause-leaves
derivation_report-requires-clause-leaves t c =
    subst (λ (g : Graph). c.in_ok-found.found.leaves.items ≡ map (place_of g) (leaves g.order (shape_of c.in_ok-found.found.tree))) c.requires c.in_ok-found.ensures.leaves

pub returns-clause-gives : goal.returns-clause-gives
returns-clause-gives t c =
    let tree = shape_of c.in_ok-found.found.tree in
    let named = named_graph c.args.named.now in
    let picks = t.O.Order.picks c.args.order.now in
    IfOk-weaker c.derivation_report.result (λ (report : Report). TellsDerivation named tree report.status report.bytes.items) (λ (report : Report). DecomposeGives picks named report.status report.bytes.items)
    (λ report told. inl (record { tree = tree; picked = subst (λ (g : Graph). IsPicked picks g tree) c.requires c.in_ok-found.ensures.picked; told = told })) c.derivation_report.ensures.gives
