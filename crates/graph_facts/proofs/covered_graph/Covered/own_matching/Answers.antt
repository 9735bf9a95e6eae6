use Rattle.allowed_edges.proofs.from_counting.Common.{◌≡◌, ◌&&◌, true, Bool, ap, ◌∙◌, ℕ, List, arith, mem}
use Rattle.graph_core.proofs.Common.{degree_congr}
use Rattle.allowed_edges.specs.from_match_core.Common.{edges_of, left_over}
use Rattle.graph_facts.proofs.covered_graph.Covered.own_matching.Goals as goal

and_true : (b : Bool) → (b && true) ≡ b
and_true b = grind arith

pub returns-clause-of : goal.returns-clause-of
returns-clause-of c = c.in_ok-own.ensures.of c.args.self.now c.matching.ensures.of

pub returns-clause-perfect : goal.returns-clause-perfect
returns-clause-perfect c =
    let g = c.args.self.now in
    let k = mem (edges_of c.matching.result.now) in
    let m = mem (edges_of c.in_ok-own.own) in
    let same : (i : ℕ) → m i ≡ k i = λ i. c.in_ok-own.ensures.edges g c.matching.ensures.of i ∙ ap (λ (xs : List ℕ). left_over g (mem xs) k i) c.empty.ensures ∙ and_true (k i) in
    let perfect = c.matching.ensures.perfect in
    grind (arith, degree_congr g m k)
