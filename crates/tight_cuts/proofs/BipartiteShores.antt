-- What an edge of a bipartite graph gives, by the digraph of a perfect matching that holds it.
-- Idea: the least tight shore with an end of the edge and x, and without the other end, is the
-- intersection of all; and a pair is separated by a nontrivial one alone.
use Rattle.graph_core.proofs.from_counting.Common.{IfOk, Result, ◌≡◌, ℕ, true, ◌==◌, List, max, min, Some, None, eq-eqb, arith, same_tests, both_ways, false_from_ne_true, or_left, or_right, Within, mem, pair_set}
use Rattle.graph_core.proofs.Common.{IsCovered, Graph, first_end, second_end, size, IsWithinLimits}
use Rattle.barrier_kit.specs.from_match_core.Common.{MatchingValue, edges_of}
use Rattle.quick_kinds.proofs.from_matching_digraph.TightShores.{mates_from}
use Rattle.quick_kinds.specs.from_matching_digraph.Digraph.{IsLeastShore, NoneParts}
use Rattle.quick_kinds.specs.from_matching_digraph.Digraphs.{IsDigraphOf}
use Rattle.quick_kinds.specs.from_matching_digraph.declared.digraph.Digraph.{Digraph}
use Rattle.tight_cuts.proofs.EdgeLoop.{ends_between}
use Rattle.tight_cuts.specs.Common.{IsDigraphAt, first_separated, greater_end, is_separated, lesser_end, IsCommonShore, IsShoreOfEdge}
use Rattle.tight_cuts.proofs.EdgeShores.{greater_within, lesser_within}
use Rattle.tight_cuts.proofs.FirstPairs.{no_first}
use Rattle.tight_cuts.proofs.LeastShores.{common_from, common_in, separated_says, parts_nontrivial}

module _ (g : Graph) (lim : IsWithinLimits g) (cov : IsCovered g) (e : ℕ) (we : Within (size g) e) where
  abbrev a : ℕ
  a = lesser_end g e

  abbrev b : ℕ
  b = greater_end g e

  -- the least shore with x, in the same graph as h, is the common shore of x and the greater end
  pub least_common : (x : ℕ) → Within g.order x → (i j : ℕ) (z : List ℕ) → i ≡ min (first_end g e) (second_end g e) → j ≡ max (first_end g e) (second_end g e) → IsLeastShore g i j x (mem z) → IsCommonShore g a b (x, b) (Some z)
  least_common x wx i j z first second least = grind (arith, same_tests, common_from, common_in, lesser_within, greater_within)

  -- if no nontrivial tight shore has the lesser end and not the greater, no pair is separated
  pub inseparable_none : NoneParts g a b → first_separated g e ≡ None
  inseparable_none clear = no_first g.order (is_separated g a b) (λ x y wx wy. false_from_ne_true (is_separated g a b (x, y)) (λ t.
      let p = separated_says g a b (x, y) t in
      let z = p.2.0 in
      let q = p.2.1 in
      clear z q.tight
      (parts_nontrivial g a b (x, y) z (lesser_within g lim cov e we) (greater_within g lim cov e we) wx wy
      (λ i. both_ways (pair_set a b x) p.0 (or_left (a == x) (b == x) (eq-eqb a x i)))
      (λ i. both_ways (pair_set a b y) p.1 (or_right (a == y) (b == y) (eq-eqb b y i))) q)
      q.has_a q.lacks_b))

-- an answer of nothing is right if no pair is separated
pub nothing_at : (g : Graph) (e : ℕ) → first_separated g e ≡ None → IsShoreOfEdge g e None
nothing_at g e h = record { some = λ s q. absurd cc; none = λ q. h }

-- a digraph of g with that side and that matching is one at the edge
pub digraph_found : {E : Type 0} (g : Graph) (e : ℕ) (side : List ℕ) (matching : MatchingValue) (r : Result Digraph E) → IfOk r (IsDigraphOf g) → IfOk r (λ d. d.side ≡ side) → IfOk r (λ d. d.matching ≡ matching) →
    mem side (lesser_end g e) ≡ true → Within (size g) e → mem (edges_of matching) e ≡ true → IfOk r (IsDigraphAt g e)
digraph_found g e side matching r of s m has we held = grind (arith, mates_from g (mem (edges_of matching)) (lesser_end g e) (greater_end g e) e we held (ends_between g e), ends_between g e)
