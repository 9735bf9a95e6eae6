use Rattle.graph_core.proofs.from_counting.Common.{subst, take, drop, List, ℕ, arith, IfErr-weaker, err_from_is_err_and}
use Rattle.graph6_text.proofs.Canonical.{simple-graph_of}
use Rattle.graph6_text.specs.Common.{IsFirstFaultOfRows, faults_of}
use Rattle.graph6_text.proofs.Passing.{outcome-fault, outcome-graph, is_first-front, is_first-behind, first_fault-append}
use Rattle.graph6_text.proofs.read.read_graph6.Goals as goal

pub returns-in_err-check_body-clause-fault : goal.returns-in_err-check_body-clause-fault
returns-in_err-check_body-clause-fault c =
    let p = err_from_is_err_and c.from_residual.result c.from_residual.ensures.1 in
    let body = c.body-body.result.now in
    let e = c.in_err-check_body.field-0.0 in
    grind (arith, outcome-fault c.args.bytes.now e, is_first-front (take 9 (faults_of body)) (drop 9 (faults_of body)) e c.in_err-check_body.ensures)

pub returns-clause-value : goal.returns-clause-value
returns-clause-value c = grind (arith, outcome-graph c.args.bytes.now, first_fault-append)

pub returns-clause-simple : goal.returns-clause-simple
returns-clause-simple c = grind (arith, simple-graph_of c.body-body.result.now)

pub returns-clause-fault : goal.returns-clause-fault
returns-clause-fault c =
    let body = c.body-body.result.now in
    IfErr-weaker c.to_graph.result _ _ (λ e h. outcome-fault c.args.bytes.now e (subst (λ (xs : List ℕ). IsFirstFaultOfRows (faults_of xs) e) c.body-body.ensures
    (is_first-behind (take 9 (faults_of body)) (drop 9 (faults_of body)) e c.in_ok-check_body.ensures h)))
    c.to_graph.ensures.fault
