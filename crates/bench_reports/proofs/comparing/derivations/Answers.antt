use Rattle.std.proofs.Common.{◌≡◌, IfOk, Result, subst, sym}
use Rattle.std.proofs.Math.Logic.{∥∥₁_elim}
use Rattle.graph_core.proofs.Common.{Graph}
use Rattle.graph_core.specs.declared.verdict.Reason.{Reason}
use Rattle.tree_core.proofs.Common.{Fits, shape_of}
use Rattle.bench_reports.proofs.GivenFacts.{tree-fits_prop}
use Rattle.bench_reports.proofs.comparing.derivations.Goals as goal

pub refusal_of_covered-requires-clause-first : goal.refusal_of_covered-requires-clause-first
refusal_of_covered-requires-clause-first c =
    let given = c.args.given.now in
    let same = subst (λ (r : Result Graph Reason). IfOk r (λ h. h ≡ given.named.graph)) c.in-Ok.is c.in_ok-covered.ensures.covered in
    subst (λ (h : Graph). Fits h.order (shape_of given.first)) (sym same) (∥∥₁_elim given.first_fits (tree-fits_prop given.named.graph.order (shape_of given.first)) (λ fits. fits))

pub refusal_of_covered-requires-clause-second : goal.refusal_of_covered-requires-clause-second
refusal_of_covered-requires-clause-second c =
    let given = c.args.given.now in
    let same = subst (λ (r : Result Graph Reason). IfOk r (λ h. h ≡ given.named.graph)) c.in-Ok.is c.in_ok-covered.ensures.covered in
    subst (λ (h : Graph). Fits h.order (shape_of given.second)) (sym same) (∥∥₁_elim given.second_fits (tree-fits_prop given.named.graph.order (shape_of given.second)) (λ fits. fits))
