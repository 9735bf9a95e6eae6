-- The quotient and the contraction have the same adjacent pairs, so both are matching covered or
-- neither is, and a union of blocks is tight in the one if and only if it is in the other.
use Rattle.graph_core.proofs.from_counting.Common.{◌≡◌, ℕ, ◌<◌, ◌≢◌, true, not, ◌==◌, List, length, sym, ap, ◌∙◌, arith, inl, inr, ne_eqb, and_parts, and_from, cases_order, some_true, true_some, same_tests, Within, Set, some}
use Rattle.graph_core.proofs.Common.{Alike, covered_over, has_ends-from, contracted-graph, contracted-order, contracted-size, edge_of_pair, quotient-order, quotient_edge, quotient_graph, has_ends-back, IsCovered, Graph, IsGraph, first_end, has_ends, second_end, size, AreBlocks, contracted, quotient, IsTightAt, IsUnion, blocks_in, IsTight}
use Rattle.graph_core.proofs.QuotientTight.{tight_down, tight_up}

module _ (g : Graph) (p : List (List ℕ)) (is : IsGraph g) (pp : AreBlocks g.order p) where
  -- a < b are joined in the quotient where they are in the contracted graph
  up : (a b : ℕ) → Within (length p) a → Within (length p) b → a < b → some (size (contracted g p)) (has_ends (contracted g p) a b) ≡ true → some (size (quotient g p)) (has_ends (quotient g p) a b) ≡ true
  up a b wa wb l h =
      let s : some (size g) (has_ends (contracted g p) a b) ≡ true = ap (λ k. some k (has_ends (contracted g p) a b)) (sym (contracted-size g p)) ∙ h in
      let r = edge_of_pair g p a b wa wb l (and_from (not (a == b)) (some (size g) (has_ends (contracted g p) a b)) (ap not (ne_eqb a b (λ e. absurd (omega arith)))) s) in
      true_some (size (quotient g p)) (has_ends (quotient g p) a b) r.0 r.1 (has_ends-from (quotient g p) a b r.0 (inl (r.2, r.3)))

  down : (a b : ℕ) → some (size (quotient g p)) (has_ends (quotient g p) a b) ≡ true → some (size (contracted g p)) (has_ends (contracted g p) a b) ≡ true
  down a b h = grind (arith, some_true, size, quotient, has_ends, quotient_edge, some, contracted, first_end, second_end, contracted-size, and_parts)

  turned : (h : Graph) (a b : ℕ) → some (size h) (has_ends h a b) ≡ true → some (size h) (has_ends h b a) ≡ true
  turned h a b t = let r = some_true (size h) (has_ends h a b) t in true_some (size h) (has_ends h b a) r.0 r.1 (has_ends-back h a b r.0 r.2)

  pub same_pairs : (a b : ℕ) → Within (length p) a → Within (length p) b → a ≢ b → some (size (contracted g p)) (has_ends (contracted g p) a b) ≡ some (size (quotient g p)) (has_ends (quotient g p) a b)
  same_pairs a b wa wb d = same_tests (some (size (contracted g p)) (has_ends (contracted g p) a b)) (some (size (quotient g p)) (has_ends (quotient g p) a b)) there (down a b)
    where
      there : some (size (contracted g p)) (has_ends (contracted g p) a b) ≡ true → some (size (quotient g p)) (has_ends (quotient g p) a b) ≡ true
      there h = elim (cases_order a b) [
        | inl e ↦ absurd (d e)
        | inr o ↦ elim o [ inl l ↦ up a b wa wb l h | inr l ↦ turned (quotient g p) b a (up b a wb wa l (turned (contracted g p) a b h)) ]
      ]

  alike_q : Alike (contracted g p) (quotient g p) (λ v. v)
  alike_q = grind (arith, quotient-order g p, contracted-order g p, same_pairs)

  alike_c : Alike (quotient g p) (contracted g p) (λ v. v)
  alike_c = grind (arith, contracted-order g p, quotient-order g p, same_pairs)

  pub covered_up : IsCovered (contracted g p) → IsCovered (quotient g p)
  covered_up cov = covered_over (contracted g p) (quotient g p) (λ v. v) (contracted-graph g p is pp) alike_q (quotient_graph g p is pp) cov

  pub covered_down : IsCovered (quotient g p) → IsCovered (contracted g p)
  covered_down cov = covered_over (quotient g p) (contracted g p) (λ v. v) (quotient_graph g p is pp) alike_c (contracted-graph g p is pp) cov

  pub tight_at_up : (x : Set) → IsTightAt g p x → IsTight (quotient g p) (blocks_in p x)
  tight_at_up x t = tight_up g p is pp (blocks_in p x) t.tight

  pub tight_at_down : (x : Set) → IsUnion g.order p x → IsTight (quotient g p) (blocks_in p x) → IsTightAt g p x
  tight_at_down x u t = record { union = u; tight = tight_down g p is pp (blocks_in p x) t }
