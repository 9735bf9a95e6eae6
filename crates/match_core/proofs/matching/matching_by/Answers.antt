use Rattle.graph_core.proofs.from_counting.Common.{◌≡◌, sym, ap, ◌∙◌, subst, mem, mem-rising_list}
use Rattle.graph_core.proofs.Common.{Graph, size}
use Rattle.match_search.specs.Common.{numbers}
use Rattle.match_search.proofs.WholeGraphs.{limits_row, whole_graph}
use Rattle.match_core.specs.Common.{ArePairs, KeepsMatching, IsOf, edges_of}
use Rattle.match_core.proofs.HeldMates.{same_edges_mates}
use Rattle.match_core.proofs.MatchingEdges.{marked-keeps, marked-of, marked-edges, marked_matching}
use Rattle.match_core.proofs.matching.matching_by.Goals as goal
use Rattle.match_core.proofs.matching.matching_by.Goals.{In_ok-paired_rows}

pub paired_rows-requires-clause-row : goal.paired_rows-requires-clause-row
paired_rows-requires-clause-row c = limits_row c.args.g.now c.order-n.result c.edges-ends.result.now c.order-n.ensures.is c.edges-ends.ensures.edges c.edges-ends.ensures.limits

pairs : (c : In_ok-paired_rows) → ArePairs c.args.g.now c.args.mate.now c.in_ok-paired_rows.field-0.items
pairs c = subst (λ (g : Graph). ArePairs g c.args.mate.now c.in_ok-paired_rows.field-0.items) (whole_graph c.args.g.now c.order-n.result c.edges-ends.result.now c.order-n.ensures.is c.edges-ends.ensures.edges) c.in_ok-paired_rows.ensures

made : (c : In_ok-paired_rows) → record { order = c.order-n.result; rows = c.in_ok-paired_rows.field-0.items } ≡ marked_matching c.args.g.now (pairs c).m
made c = let order = c.order-n.ensures.is in let rows = (pairs c).rows_are in cc

pub invariant_of-result : goal.invariant_of-result
invariant_of-result c =
    let limits = c.edges-ends.ensures.limits in
    subst KeepsMatching (sym (made c)) (marked-keeps c.args.g.now (pairs c).m limits.multigraph.ends limits.vertices limits.edges (pairs c).matching)

pub returns-clause-of : goal.returns-clause-of
returns-clause-of c = subst (IsOf c.args.g.now) (sym (made c)) (marked-of c.args.g.now (pairs c).m)

pub returns-clause-mates : goal.returns-clause-mates
returns-clause-mates c = λ r f has.
    same_edges_mates c.args.g.now r (pairs c).m _ (numbers c.args.mate.now)
    (λ e w. ap (λ m. mem (edges_of m) e) (made c) ∙ ap (λ es. mem es e) (marked-edges c.args.g.now (pairs c).m) ∙ mem-rising_list (size c.args.g.now) (pairs c).m e w)
    ((pairs c).mates r f has)
