-- The fast tests for braces and bricks, and the list of candidates: it is empty if and only if there
-- is no nontrivial tight cut. A nontrivial shore that parts two mates has a further vertex, from
-- which the digraph's walks can begin.
use Rattle.tree_check.proofs.from_counting.Common.{◌≡◌, ◌≢◌, ◌==◌, not, ℕ, true, false, [], arith, sym, ap, ◌∙◌, ◌↔◌, and_parts, both_ways, count_member, count_minus, eq-eqb, not-true, Within, Set, complement, minus, none, singleton}
use Rattle.graph_core.proofs.Common.{Graph, IsBicritical, IsBipartite, IsCovered, IsCutPair, IsGraph, IsMultigraph, IsPerfect, IsSide, HasOnlyTrivialTightCuts}
use Rattle.quick_kinds.proofs.from_brick_kit.Bricks.{brick_or_not}
use Rattle.quick_kinds.proofs.from_matching_digraph.Spans.{none_at_all, none_spans, none_spans_back, spans_none}
use Rattle.quick_kinds.proofs.from_matching_digraph.TightShores.{ends_of_mates}
use Rattle.quick_kinds.specs.from_matching_digraph.Digraph.{NoneParts, Spans, arc, are_mates}
use Rattle.tree_check.proofs.from_tight_cuts.Completeness.{candidates_none}
use Rattle.tree_check.specs.from_tight_cuts.Common.{candidates}

module _ (g : Graph) (is : IsGraph g) (cov : IsCovered g) (x : Set) (two : IsSide g x) (m : Set) (perfect : IsPerfect g none m) where
  -- from each vertex but a and b, walks past a lead to all but b, and back
  abbrev AllReached : Type 0
  AllReached = (a b r : ℕ) → x a ≡ true → are_mates g m a b ≡ true → Within g.order r → r ≢ a → r ≢ b → Spans g.order (arc g x m) a r b × Spans g.order (arc g (complement x) m) b r a

  reached : HasOnlyTrivialTightCuts g → AllReached
  reached clear a b r xa mates wr ra rb =
      let w = ends_of_mates g is m a b mates in
      let none_parts : NoneParts g a b = λ y t n ya yb. clear y t n in
      (none_spans g is cov m perfect x two a b r w.0 w.1 wr mates xa ra rb none_parts, none_spans_back g is cov m perfect x two a b r w.0 w.1 wr mates xa ra rb none_parts)

  clear_from : AllReached → HasOnlyTrivialTightCuts g
  clear_from all = none_at_all g is cov m perfect x two (λ a b wa wb xa mates y t n ya yb.
      let k = count_minus g.order y a wa ya in
      let i = n.inside in
      let r = count_member g.order (minus y (singleton a)) (omega arith) in
      let p = and_parts (y r.0) (not (a == r.0)) r.2 in
      let ra : r.0 ≢ a = λ q. both_ways (a == r.0) (not-true (a == r.0) p.1) (eq-eqb a r.0 (sym q)) in
      let rb : r.0 ≢ b = λ q. both_ways (y b) yb (ap y (sym q) ∙ p.0) in
      let both = all a b r.0 xa mates r.1 ra rb in
      spans_none g is cov m perfect x two a b r.0 wa wb r.1 mates xa ra rb both.0 both.1 y t n ya yb)

  pub by_reachability : (candidates g ≡ []) ↔ AllReached
  by_reachability = (
    (λ e. reached ((candidates_none g is cov).0 e)),
    (λ all. (candidates_none g is cov).1 (clear_from all)),
  )

pub by_pairs_of_vertices : (g : Graph) → IsMultigraph g → IsCovered g → ¬ IsBipartite g → (candidates g ≡ []) ↔ (IsBicritical g × ((u v : ℕ) → ¬ IsCutPair g u v))
by_pairs_of_vertices g is cov odd = (
  (λ e. (brick_or_not g is cov odd).0 ((candidates_none g is.ends cov).0 e)),
  (λ h. (candidates_none g is.ends cov).1 ((brick_or_not g is cov odd).1 h)),
)
