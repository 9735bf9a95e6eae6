use Rattle.allowed_edges.proofs.from_counting.Common.{Option, List, ℕ, subst, IfSome, arith, mem, none}
use Rattle.graph_core.proofs.Common.{HasPerfect, covered_perfect}
use Rattle.allowed_edges.specs.from_match_core.Common.{edges_of, ArePartners}
use Rattle.allowed_edges.proofs.AllowedPartners.{perfect_unless_none}
use Rattle.graph_facts.proofs.CoveredFacts.{maximum_is_perfect, told_reason}
use Rattle.graph_facts.proofs.covered_graph.Covered.of_connected.Goals.{In-Some}
use Rattle.graph_facts.proofs.covered_graph.Covered.of_connected.Goals as goal

-- with a table there is a perfect matching
perfect_by_table : (c : In-Some) → HasPerfect c.args.g.now none
perfect_by_table c = perfect_unless_none c.args.g.now (λ n. let e = c.in_ok-partners_where_perfect.ensures.perfect.1 n in let s = c.in-Some.is in absurd cc)

pub returns-in-None-clause-uncovered : goal.returns-in-None-clause-uncovered
returns-in-None-clause-uncovered c = λ why same covered. c.in_ok-partners_where_perfect.ensures.perfect.0 c.in-None.is (covered_perfect c.args.g.now c.keeps_limits.ensures.multigraph.ends covered)

pub returns-in-Some-first_unallowed-clause-reason : goal.returns-in-Some-first_unallowed-clause-reason
returns-in-Some-first_unallowed-clause-reason c = grind (arith, told_reason, perfect_by_table)

pub invariant_of-result : goal.invariant_of-result
invariant_of-result c =
    let g = c.args.g.now in
    record {
      covered = record { two = c.requires.two; connected = c.requires.connected; allowed = λ e w d. c.in-None-first_unallowed.ensures.none e w };
      of = c.in_ok-matching.ensures.of;
      perfect = maximum_is_perfect g (mem (edges_of c.in_ok-matching.field-0.matching)) c.keeps_limits.ensures.multigraph.ends c.in_ok-matching.ensures.maximum (perfect_by_table (goal.at.invariant_of-result c).In-Some);
      partners = subst (λ (o : Option (List (List ℕ))). IfSome o (ArePartners g none)) c.in-Some.is c.in_ok-partners_where_perfect.ensures.table;
      side_is = c.requires.side;
      bipartite = c.requires.bipartite;
    }
