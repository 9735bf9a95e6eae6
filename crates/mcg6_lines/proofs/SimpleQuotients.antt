-- A quotient is a simple graph: its edges are pairs in rising order, and none of them stands twice.
-- Idea: an edge has its lesser end first, so edges with the same ends are one pair, listed once.
use Rattle.allowed_edges.proofs.from_counting.Common.{List, arith, ℕ, ◌≡◌, cases_order, Within}
use Rattle.graph_core.proofs.Common.{quotient_edge, has_ends-cases, Graph, first_end, second_end, size, contracted, quotient, IsSimple}
use Rattle.report_text.proofs.from_contraction.JoinedPairs.{joined-once}
use Rattle.report_text.proofs.from_contraction.QuotientValues.{joined-quotient}

-- two edges with the same ends in the same order are one edge
one_edge : (g : Graph) (p : List (List ℕ)) (e f : ℕ) → Within (size (quotient g p)) e → Within (size (quotient g p)) f →
    first_end (quotient g p) f ≡ first_end (quotient g p) e → second_end (quotient g p) f ≡ second_end (quotient g p) e → e ≡ f
one_edge g p e f we wf a b = grind (arith, cases_order e f, joined-quotient g p, joined-once (contracted g p))

pub simple_quotient : (g : Graph) (p : List (List ℕ)) → IsSimple (quotient g p)
simple_quotient g p e f we wf h = grind (arith, has_ends-cases, one_edge, quotient_edge)
