use Rattle.graph_core.proofs.from_counting.Common.{◌≡◌, ◌==◌, ap, ◌∙◌, subst, refl, eq-eqb, arith, or_right, mem, none}
use Rattle.graph_core.proofs.Common.{IsPerfect}
use Rattle.match_core.specs.Common.{MatchingValue, edges_of}
use Rattle.allowed_edges.proofs.ThroughEdges.{edge_free, one_cut, one_glued, one_leaves}
use Rattle.allowed_edges.proofs.questions.perfect_with_edge.Goals as goal

pub perfect_off-requires-clause-few : goal.perfect_off-requires-clause-few
perfect_off-requires-clause-few c = grind (arith, one_leaves c.args.g.now c.keeps_limits.ensures.multigraph c.args.e c.requires.edge (mem c.empty.result) (mem c.with_ends-met.result))

pub joined-requires-clause-first : goal.joined-requires-clause-first
joined-requires-clause-first c =
    (edge_free c.args.g.now c.keeps_limits.ensures.multigraph c.args.e c.requires.edge (mem c.empty.result) (mem c.with_ends-met.result) (λ v. ap (λ xs. mem xs v) c.empty.ensures) c.with_ends-met.ensures (mem c.with_ends-met.result) (mem (edges_of c.in-Some.rest)) (c.in_ok-rest.ensures.perfect c.in-Some.rest c.in-Some.is) (λ v t. t)).0

pub joined-requires-clause-second : goal.joined-requires-clause-second
joined-requires-clause-second c =
    (edge_free c.args.g.now c.keeps_limits.ensures.multigraph c.args.e c.requires.edge (mem c.empty.result) (mem c.with_ends-met.result) (λ v. ap (λ xs. mem xs v) c.empty.ensures) c.with_ends-met.ensures (mem c.with_ends-met.result) (mem (edges_of c.in-Some.rest)) (c.in_ok-rest.ensures.perfect c.in-Some.rest c.in-Some.is) (λ v t. t)).1

pub returns-in_ok-joined-in-Some-clause-perfect : goal.returns-in_ok-joined-in-Some-clause-perfect
returns-in_ok-joined-in-Some-clause-perfect c = λ m q.
    let same : c.in_ok-joined-in-Some.field-0 ≡ m = cc in
    subst (λ (m : MatchingValue). IsPerfect c.args.g.now none (mem (edges_of m))) same
    (one_glued c.args.g.now c.keeps_limits.ensures.multigraph c.args.e c.requires.edge (mem c.empty.result) (mem c.with_ends-met.result) (λ v. ap (λ xs. mem xs v) c.empty.ensures) c.with_ends-met.ensures (mem (edges_of c.in-Some.rest)) (mem (edges_of c.in_ok-joined-in-Some.field-0)) (c.in_ok-rest.ensures.perfect c.in-Some.rest c.in-Some.is) c.in_ok-joined-in-Some.ensures.edges)

pub returns-in_ok-joined-in-Some-clause-none : goal.returns-in_ok-joined-in-Some-clause-none
returns-in_ok-joined-in-Some-clause-none c =
    let perfect = one_glued c.args.g.now c.keeps_limits.ensures.multigraph c.args.e c.requires.edge (mem c.empty.result) (mem c.with_ends-met.result) (λ v. ap (λ xs. mem xs v) c.empty.ensures) c.with_ends-met.ensures (mem (edges_of c.in-Some.rest)) (mem (edges_of c.in_ok-joined-in-Some.field-0)) (c.in_ok-rest.ensures.perfect c.in-Some.rest c.in-Some.is) c.in_ok-joined-in-Some.ensures.edges in (
      (λ q. cc),
      (λ h. absurd (h (mem (edges_of c.in_ok-joined-in-Some.field-0), perfect, c.in_ok-joined-in-Some.ensures.edges c.args.e ∙ or_right (mem (edges_of c.in-Some.rest) c.args.e) (c.args.e == c.args.e) (eq-eqb c.args.e c.args.e refl)))),
    )

pub returns-in-None-clause-none : goal.returns-in-None-clause-none
returns-in-None-clause-none c = grind (arith, one_cut c.args.g.now c.keeps_limits.ensures.multigraph c.args.e c.requires.edge (mem c.empty.result) (mem c.with_ends-met.result))
