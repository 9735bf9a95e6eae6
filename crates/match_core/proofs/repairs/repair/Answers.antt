use Rattle.graph_core.proofs.from_counting.Common.{◌≡◌, sym, ap, ap₂, ◌∙◌, subst, subst₂, arith, fun_ext, mem, Set}
use Rattle.graph_core.proofs.Common.{Graph, IsMatching, missed_count}
use Rattle.match_search.specs.Common.{marks, DiffersByPath}
use Rattle.match_core.specs.Common.{edges_of, MatchingValue}
use Rattle.match_core.proofs.FrameFacts.{listed_marks, listed_perfect, passed_matching}
use Rattle.match_core.proofs.RepairedPaths.{differs_alike}
use Rattle.match_core.proofs.RowMates.{mates_beside}
use Rattle.match_search.proofs.WholeGraphs.{limits_row, whole_graph}
use Rattle.match_core.proofs.repairs.repair.Goals as goal

pub perfect_edges-requires-clause-row : goal.perfect_edges-requires-clause-row
perfect_edges-requires-clause-row c = limits_row c.args.g.now c.order-n.result c.edges-ends.result.now c.order-n.ensures.is c.edges-ends.ensures.edges c.edges-ends.ensures.limits

pub perfect_edges-requires-clause-mates : goal.perfect_edges-requires-clause-mates
perfect_edges-requires-clause-mates c = grind (arith, whole_graph, mem, mates_beside)

pub repaired_marks-requires-clause-row : goal.repaired_marks-requires-clause-row
repaired_marks-requires-clause-row c = limits_row c.args.g.now c.order-n.result c.edges-ends.result.now c.order-n.ensures.is c.edges-ends.ensures.edges c.edges-ends.ensures.limits

pub repaired_marks-requires-clause-matching : goal.repaired_marks-requires-clause-matching
repaired_marks-requires-clause-matching c =
    let there = whole_graph c.args.g.now c.order-n.result c.edges-ends.result.now c.order-n.ensures.is c.edges-ends.ensures.edges in
    let given : marks c.in_ok-given.given.items ≡ mem (edges_of c.args.m.now) = fun_ext c.in_ok-given.ensures.each in
    subst₂ (λ (g : Graph) (s : Set). IsMatching g (mem c.args.removed) s) (sym there) (sym given) c.requires.matching

pub repaired_marks-requires-clause-two : goal.repaired_marks-requires-clause-two
repaired_marks-requires-clause-two c =
    let there = whole_graph c.args.g.now c.order-n.result c.edges-ends.result.now c.order-n.ensures.is c.edges-ends.ensures.edges in
    let given : marks c.in_ok-given.given.items ≡ mem (edges_of c.args.m.now) = fun_ext c.in_ok-given.ensures.each in
    ap₂ (λ (g : Graph) (s : Set). missed_count g (mem c.args.removed) s) there given ∙ c.requires.two

pub matching_of-requires-clause-matching : goal.matching_of-requires-clause-matching
matching_of-requires-clause-matching c = grind (arith, whole_graph, mem, passed_matching)

pub returns-in_ok-matching_of-in-Some-clause-perfect : goal.returns-in_ok-matching_of-in-Some-clause-perfect
returns-in_ok-matching_of-in-Some-clause-perfect c = grind (arith, whole_graph, mem, listed_perfect)

pub returns-in_ok-matching_of-in-Some-clause-path : goal.returns-in_ok-matching_of-in-Some-clause-path
returns-in_ok-matching_of-in-Some-clause-path c = λ answer q.
    let there = whole_graph c.args.g.now c.order-n.result c.edges-ends.result.now c.order-n.ensures.is c.edges-ends.ensures.edges in
    let given : marks c.in_ok-given.given.items ≡ mem (edges_of c.args.m.now) = fun_ext c.in_ok-given.ensures.each in
    let same : c.in_ok-matching_of-in-Some.field-0 ≡ answer = cc in
    let differs = subst₂ (λ (g : Graph) (s : Set). DiffersByPath g (mem c.args.removed) s (marks c.in_ok-mark-in-Some.mark.items)) there given c.in_ok-mark-in-Some.ensures.path in
    subst (λ (m : MatchingValue). DiffersByPath c.args.g.now (mem c.args.removed) (mem (edges_of c.args.m.now)) (mem (edges_of m))) same
    (differs_alike c.args.g.now (mem c.args.removed) (mem (edges_of c.args.m.now)) (marks c.in_ok-mark-in-Some.mark.items) (mem (edges_of c.in_ok-matching_of-in-Some.field-0)) (λ e w. ap (λ xs. mem xs e) c.in_ok-matching_of-in-Some.ensures.edges ∙ listed_marks c.args.g.now (marks c.deref-in-Some.result.now) e w ∙ ap (λ row. marks row e) c.deref-in-Some.ensures.value) differs)
