-- In an elementary graph a vertex set that is neither empty nor all has an edge of some perfect
-- matching in its cut, since walks of allowed edges lead out of it. So what is true of the barriers
-- of a covered graph is true of its barriers.
use Rattle.tree_check.proofs.from_counting.Common.{◌≡◌, ℕ, true, false, ◌&&◌, refl, ap, arith, inl, inr, and_from, and_parts, at_le_total, both_ways, cases_Bool, some_none, some_true, Within, bit, none, singleton, some, Set}
use Rattle.barrier_kit.proofs.Common.{AreCutsMet}
use Rattle.graph_core.proofs.Common.{IsClosed, Walk-stays, is_allowed_says, Graph, IsGraph, IsPerfect, has_ends, in_cut, is_allowed, size}
use Rattle.quick_kinds.proofs.from_matching_digraph.TightShores.{ends_within}
use Rattle.theorems.proofs.TwoExtendable.{cut_from_ends}
use Rattle.theorems.specs.Barriers.{IsElementary, allowed_adjacent}

module _ (g : Graph) (is : IsGraph g) (el : IsElementary g) where
  -- some perfect matching has an edge in the cut
  pub elementary_cut : AreCutsMet g
  unfolding IsClosed
  elementary_cut x u v wu wv xu xv = elim (cases_Bool (some (size g) (λ e. is_allowed g e && in_cut g x e))) [
    | inl t ↦
        let e = some_true (size g) (λ e. is_allowed g e && in_cut g x e) t in
        let p = and_parts (is_allowed g e.0) (in_cut g x e.0) e.2 in
        let a = is_allowed_says g e.0 p.0 in
        let o : bit (a.0 e.0 && in_cut g x e.0) ≡ 1 = ap bit (and_from (a.0 e.0) (in_cut g x e.0) a.2 p.1) in
        (a.0, a.1, omega (arith, at_le_total (size g) (λ i. bit (a.0 i && in_cut g x i)) e.0 e.1))
    | inr f ↦
        let w = el.connected u v wu wv in
        absurd (both_ways (x v) xv (Walk-stays g.order (allowed_adjacent g) x ends (λ s t ws wt xs h. stays f s t xs h) u v w.0 xu w.1))
  ]
    where
      ends : (s t : ℕ) → allowed_adjacent g s t ≡ true → Within g.order s × Within g.order t
      ends s t h = grind (arith, some_true, size, is_allowed, has_ends, ends_within, and_parts)

      stays : some (size g) (λ e. is_allowed g e && in_cut g x e) ≡ false → (s t : ℕ) → x s ≡ true → allowed_adjacent g s t ≡ true → x t ≡ true
      stays f s t xs h = elim (cases_Bool (x t)) [
        | inl i ↦ i
        | inr off ↦
            let e = some_true (size g) (λ e. is_allowed g e && has_ends g s t e) h in
            let p = and_parts (is_allowed g e.0) (has_ends g s t e.0) e.2 in
            let z = some_none (size g) (λ e. is_allowed g e && in_cut g x e) f e.0 e.1 in
            absurd (both_ways (is_allowed g e.0 && in_cut g x e.0) z (and_from (is_allowed g e.0) (in_cut g x e.0) p.0 (cut_from_ends g x s t e.0 p.1 xs off)))
      ]

  pub elementary_perfect : (m : Set) × IsPerfect g none m
  elementary_perfect = let t = el.two in let m = elementary_cut (singleton 1) 1 2 (omega arith) (omega arith) refl refl in (m.0, m.1)
