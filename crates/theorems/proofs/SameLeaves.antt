-- Lovász's uniqueness theorem: the pairing of the leaves of two tight cut decompositions, said of
-- their quotients, and what it counts.
use Rattle.tree_check.proofs.from_counting.Common.{◌≡◌, ℕ, ◌-◌, Bool, ◌==◌, ◌&&◌, refl, sym, inl, ap, ap₂, ◌∙◌, arith, List, [], length, count_by, Within}
use Rattle.graph_core.proofs.Common.{has_ends-cases, quotient_graph, Graph, IsGraph, IsMultigraph, IsSimple, first_end, second_end, quotient}
use Rattle.report_text.proofs.from_contraction.ProjectedMatchings.{one-edge}
use Rattle.tree_check.proofs.from_move_laws.Uniqueness.{pairing_law}
use Rattle.tree_core.proofs.Common.{leaf_count-cuts, length-leaves_at, partitions-leaves, IsDerivation, cut_count, leaf_at, leaves, Shape}
use Rattle.theorems.proofs.PlainDecompositions.{pairing-words}
use Rattle.theorems.proofs.QuotientCounts.{loopless}
use Rattle.theorems.proofs.SameGraphs.{count_along, count_places, same-isomorphism, same_length, same_sides}
use Rattle.theorems.specs.TightCuts.{IsBijection, IsIsomorphism, PairsLeaves, RespectsIsomorphism, is_two_sided}

-- a quotient has at most one edge between two blocks
simple_quotient : (g : Graph) (p : List (List ℕ)) → IsSimple (quotient g p)
simple_quotient g p e f we wf h = one-edge g p e f (first_end (quotient g p) e) (second_end (quotient g p) e) we wf (inl (refl, refl)) (has_ends-cases (quotient g p) (first_end (quotient g p) e) (second_end (quotient g p) e) f h)

module _ (g : Graph) (s t : Shape) (is : IsGraph g) (ds : IsDerivation g s) (dt : IsDerivation g t) where
  pub paired_leaves : (partner : ℕ → ℕ) × (blocks : ℕ → ℕ → ℕ) × PairsLeaves g (leaves g.order s) (leaves g.order t) partner blocks
  paired_leaves = let p = pairing_law g s t is ds dt in (_, _, pairing-words g (leaves g.order s) (leaves g.order t) p.0 p.1)

  abbrev ps : List (List (List ℕ))
  ps = leaves g.order s

  abbrev qs : List (List (List ℕ))
  qs = leaves g.order t

  partner : ℕ → ℕ
  partner = paired_leaves.0

  pairs : PairsLeaves g (leaves g.order s) (leaves g.order t) partner paired_leaves.1
  unfolding partner
  pairs = paired_leaves.2

  isomorphic : (i : ℕ) → Within (length ps) i → IsIsomorphism (quotient g (leaf_at ps i)) (quotient g (leaf_at qs (partner i))) (paired_leaves.1 i)
  isomorphic i w = same-isomorphism g (leaf_at ps i) (leaf_at qs (partner i)) (paired_leaves.1 i) (pairs.same i w)

  pub isomorphic_leaves : (partner : ℕ → ℕ) × (f : ℕ → ℕ → ℕ) × IsBijection (length (leaves g.order s)) (length (leaves g.order t)) partner ×
      ((i : ℕ) → Within (length (leaves g.order s)) i → IsIsomorphism (quotient g (leaf_at (leaves g.order s) i)) (quotient g (leaf_at (leaves g.order t) (partner i))) (f i))
  isomorphic_leaves = (partner, paired_leaves.1, pairs.pairs, isomorphic)

  pub same_numbers : (length (leaves g.order s) ≡ length (leaves g.order t)) × (cut_count s ≡ cut_count t)
  same_numbers = grind (arith, same_length, length, partner, pairs, length-leaves_at, leaf_count-cuts, cut_count)

  -- what agrees on each leaf and its partner is counted alike
  counted : (p : List (List ℕ) → Bool) → ((i : ℕ) → Within (length ps) i → p (leaf_at ps i) ≡ p (leaf_at qs (partner i))) → count_by p (leaves g.order s) ≡ count_by p (leaves g.order t)
  counted p same =
      count_places p ps []
      ∙ count_along (length ps) (length qs) partner pairs.pairs (λ i. p (leaf_at ps i)) (λ i. p (leaf_at qs i)) same
      ∙ sym (count_places p qs [])

  leaf_multigraph : (r : Shape) → IsDerivation g r → (i : ℕ) → Within (length (leaves g.order r)) i → IsMultigraph (quotient g (leaf_at (leaves g.order r) i))
  leaf_multigraph r dr i w = loopless g (leaf_at (leaves g.order r) i) is (partitions-leaves g r dr (i - 1) [] (let a = w.0 in let b = w.1 in omega arith))

  leaf_graph : (r : Shape) → IsDerivation g r → (i : ℕ) → Within (length (leaves g.order r)) i → IsGraph (quotient g (leaf_at (leaves g.order r) i))
  leaf_graph r dr i w = quotient_graph g (leaf_at (leaves g.order r) i) is (partitions-leaves g r dr (i - 1) [] (let a = w.0 in let b = w.1 in omega arith)).partition

  same_order : (i : ℕ) → Within (length ps) i → length (leaf_at ps i) ≡ length (leaf_at qs (partner i))
  same_order i w = same_length _ _ (paired_leaves.1 i) (pairs.same i w).bijection

  pub same_tests_counted : (test : Graph → Bool) → RespectsIsomorphism test →
      count_by (λ p. test (quotient g p)) (leaves g.order s) ≡ count_by (λ p. test (quotient g p)) (leaves g.order t)
  same_tests_counted test respects = counted (λ p. test (quotient g p)) (λ i w.
      let v = pairs.pairs.within i w in
      respects (quotient g (leaf_at ps i)) (quotient g (leaf_at qs (partner i))) (paired_leaves.1 i)
      (leaf_multigraph s ds i w) (leaf_multigraph t dt (partner i) v) (simple_quotient g (leaf_at ps i)) (simple_quotient g (leaf_at qs (partner i))) (isomorphic i w))

  pub same_orders : (k : ℕ) → count_by (λ p. length p == k) (leaves g.order s) ≡ count_by (λ p. length p == k) (leaves g.order t)
  same_orders k = counted (λ p. length p == k) (λ i w. ap (λ n. n == k) (same_order i w))

  pub same_braces : (k : ℕ) → count_by (λ p. (length p == k) && is_two_sided (quotient g p)) (leaves g.order s) ≡ count_by (λ p. (length p == k) && is_two_sided (quotient g p)) (leaves g.order t)
  same_braces k = counted (λ p. (length p == k) && is_two_sided (quotient g p)) (λ i w.
      ap₂ ◌&&◌ (ap (λ n. n == k) (same_order i w))
      (same_sides (quotient g (leaf_at ps i)) (quotient g (leaf_at qs (partner i))) (paired_leaves.1 i) (leaf_graph s ds i w) (leaf_graph t dt (partner i) (pairs.pairs.within i w)) (isomorphic i w)))
