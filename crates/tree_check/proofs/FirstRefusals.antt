-- The law of the first refusal, by induction down the tree: a derivation has none, two refusals
-- of a tree agree, and a tree that is not a derivation has one. Below a kept cut the partitions are
-- partitions again and their quotients are matching covered.
use Rattle.graph_core.proofs.from_counting.Common.{◌≡◌, ◌⊎◌, ℕ, ◌+◌, List, refl, sym, ap, ◌∙◌, inl, inr, arith, mem}
use Rattle.graph_core.proofs.Common.{singles-partition, IsCovered, Graph, IsGraph, IsPartition, singles, quotient}
use Rattle.tree_core.proofs.Common.{kept-covers, kept-partition, merged-covers, merged-partition, root-covered, IsDerivation, IsDerivationAt, kept_at, merged_at, Shape, leaf, cut, node_count}
use Rattle.tree_check.proofs.CutRules.{broken-not_cut, broken-once, cut-or_broken}
use Rattle.tree_check.proofs.LeafRules.{broken-not_leaf, leaf-once, leaf-or_broken}
use Rattle.tree_check.specs.Common.{HasShores, IsRefused, IsRefusedAt, Why, without_matching}

module _ (g : Graph) (is : IsGraph g) where
  none-at : (p : List (List ℕ)) (t : Shape) (node : ℕ) (why : Why) → IsPartition g.order p → IsCovered (quotient g p) → IsDerivationAt g p t → IsRefusedAt g p t node why → ⊥
  none-at p leaf node why pp covered d r = broken-not_leaf g p is pp covered why r.1 d
  none-at p (cut x k m) node why pp covered d (inl r) = broken-not_cut g p x is pp.partition why r.1 d.0
  none-at p (cut x k m) node why pp covered d (inr (inl r)) = none-at (kept_at g.order p x) k r.1.0 why (kept-partition g p x is pp d.0) (kept-covers g p x is pp d.0 covered) d.1 r.1.2
  none-at p (cut x k m) node why pp covered d (inr (inr r)) = none-at (merged_at g.order p x) m r.2.0 why (merged-partition g p x is pp d.0) (merged-covers g p x is pp d.0 covered) d.2 r.2.2

  one-at : (p : List (List ℕ)) (t : Shape) (i j : ℕ) (a b : Why) → IsPartition g.order p → IsCovered (quotient g p) → IsRefusedAt g p t i a → IsRefusedAt g p t j b → (i ≡ j) × (without_matching a ≡ without_matching b)
  one-at p leaf i j a b pp covered r s = (r.0 ∙ sym s.0, leaf-once g p a b r.1 s.1)
  one-at p (cut x k m) i j a b pp covered (inl r) (inl s) = (r.0 ∙ sym s.0, broken-once g p (mem x) a b r.1 s.1)
  one-at p (cut x k m) i j a b pp covered (inl r) (inr (inl s)) = absurd (broken-not_cut g p x is pp.partition a r.1 s.0)
  one-at p (cut x k m) i j a b pp covered (inl r) (inr (inr s)) = absurd (broken-not_cut g p x is pp.partition a r.1 s.0)
  one-at p (cut x k m) i j a b pp covered (inr (inl r)) (inl s) = absurd (broken-not_cut g p x is pp.partition b s.1 r.0)
  one-at p (cut x k m) i j a b pp covered (inr (inr r)) (inl s) = absurd (broken-not_cut g p x is pp.partition b s.1 r.0)
  one-at p (cut x k m) i j a b pp covered (inr (inl r)) (inr (inl s)) =
      let e = one-at (kept_at g.order p x) k r.1.0 s.1.0 a b (kept-partition g p x is pp r.0) (kept-covers g p x is pp r.0 covered) r.1.2 s.1.2 in
      (r.1.1 ∙ ap (λ n. 1 + n) e.0 ∙ sym s.1.1, e.1)
  one-at p (cut x k m) i j a b pp covered (inr (inl r)) (inr (inr s)) = absurd (none-at (kept_at g.order p x) k r.1.0 a (kept-partition g p x is pp r.0) (kept-covers g p x is pp r.0 covered) s.1 r.1.2)
  one-at p (cut x k m) i j a b pp covered (inr (inr r)) (inr (inl s)) = absurd (none-at (kept_at g.order p x) k s.1.0 b (kept-partition g p x is pp s.0) (kept-covers g p x is pp s.0 covered) r.1 s.1.2)
  one-at p (cut x k m) i j a b pp covered (inr (inr r)) (inr (inr s)) =
      let e = one-at (merged_at g.order p x) m r.2.0 s.2.0 a b (merged-partition g p x is pp r.0) (merged-covers g p x is pp r.0 covered) r.2.2 s.2.2 in
      (r.2.1 ∙ ap (λ n. 1 + node_count k + n) e.0 ∙ sym s.2.1, e.1)

  some-at : (p : List (List ℕ)) (t : Shape) → IsPartition g.order p → IsCovered (quotient g p) → HasShores g.order t → IsDerivationAt g p t ⊎ ((node : ℕ) × (why : Why) × IsRefusedAt g p t node why)
  some-at p leaf pp covered shores = grind (arith, leaf-or_broken g p is pp covered)
  some-at p (cut x k m) pp covered shores = elim (cut-or_broken g p x is pp.partition covered shores.0) [
    | inr b ↦ inr (1, b.0, inl (refl, b.1))
    | inl c ↦ elim (some-at (kept_at g.order p x) k (kept-partition g p x is pp c) (kept-covers g p x is pp c covered) shores.1) [
      | inr r ↦ inr (1 + r.0, r.1, inr (inl (c, (r.0, refl, r.2))))
      | inl d ↦ elim (some-at (merged_at g.order p x) m (merged-partition g p x is pp c) (merged-covers g p x is pp c covered) shores.2) [
        | inr r ↦ inr (1 + node_count k + r.0, r.1, inr (inr (c, d, (r.0, refl, r.2))))
        | inl e ↦ inl (c, d, e)
      ]
    ]
  ]

  at-root : IsCovered g → IsCovered (quotient g (singles g.order))
  at-root covered = root-covered g (singles g.order) is refl covered

  pub refused-not_derived : (t : Shape) (node : ℕ) (why : Why) → IsDerivation g t → IsRefused g t node why → ⊥
  refused-not_derived t node why d r = none-at (singles g.order) t node why (singles-partition g.order) (at-root d.covered) d.derives r.refused

  pub refused-once : (t : Shape) (i j : ℕ) (a b : Why) → IsRefused g t i a → IsRefused g t j b → (i ≡ j) × (without_matching a ≡ without_matching b)
  refused-once t i j a b r s = one-at (singles g.order) t i j a b (singles-partition g.order) (at-root r.covered) r.refused s.refused

  pub derived-or_refused : (t : Shape) → IsCovered g → HasShores g.order t → IsDerivation g t ⊎ ((node : ℕ) × (why : Why) × IsRefused g t node why)
  derived-or_refused t covered shores = grind (arith, some-at (singles g.order) t (singles-partition g.order) (at-root covered) shores, singles-partition g.order, at-root covered)
