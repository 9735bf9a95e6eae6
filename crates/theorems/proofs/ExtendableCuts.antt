-- A 2-extendable graph with six vertices, connected and with a perfect matching, has no nontrivial
-- tight cut. Any two edges of a tight cut have a common end, so all have one vertex; the other
-- vertices of its shore have an edge to it in some perfect matching, which then has two edges
-- there.
use Rattle.tree_check.proofs.from_counting.Common.{◌≡◌, ◌≢◌, ℕ, ◌≤◌, Bool, true, false, ◌==◌, ◌&&◌, not, refl, sym, ap, ◌∙◌, arith, eq-eqb, eqb-true, subst, ◌⊎◌, inl, inr, and_parts, apart_denied, both_ways, but_not, cases_Bool, cases_eq, count_member, count_minus, not-true, scan, Within, Set, complement, minus, none, singleton}
use Rattle.barrier_kit.proofs.Common.{cut_edge, cut_matching, nontrivial-turned, tight-turned}
use Rattle.graph_core.proofs.Common.{has_ends-back, has_ends-cases, one_end, two_ends_le_degree, Graph, IsBipartite, IsConnected, IsCovered, IsMultigraph, first_end, has_ends, in_cut, second_end, size, HasOnlyTrivialTightCuts, HasPerfect, IsBicritical, IsEnd, IsNontrivial, IsTight}
use Rattle.theorems.proofs.BrickFacts.{three_brick}
use Rattle.theorems.proofs.ExtendableGraphs.{extendable_covered}
use Rattle.theorems.proofs.Quotients.{bipartite-or}
use Rattle.theorems.proofs.TwoExtendable.{cut_ends, cut_from_ends, no_two_apart}
use Rattle.theorems.specs.Braces.{IsTwoExtendable}
use Rattle.theorems.specs.Bricks.{IsThreeConnected}
use Rattle.theorems.specs.CutWords.{IsBrace, IsBrick}

end_first : (g : Graph) (s t e : ℕ) → has_ends g s t e ≡ true → IsEnd g e s
end_first g s t e h = grind arith

end_second : (g : Graph) (s t e : ℕ) → has_ends g s t e ≡ true → IsEnd g e t
end_second g s t e h = end_first g t s e (has_ends-back g s t e h)

-- an edge has an end, or not
end_or_not : (g : Graph) (e v : ℕ) → (IsEnd g e v) ⊎ (IsEnd g e v → ⊥)
end_or_not g e v = grind arith

module _ (g : Graph) (is : IsMultigraph g) (cov : IsCovered g) (ext : IsTwoExtendable g) where
  -- the edges of the cut of x all have the end w
  abbrev MeetAt : Set → ℕ → Type 0
  MeetAt x w = (f : ℕ) → Within (size g) f → in_cut g x f ≡ true → IsEnd g f w

  -- if not all edges of the cut have the end u of one of them, all have its other end
  other_end : (x : Set) (u v e f : ℕ) → IsTight g x → Within (size g) e → has_ends g u v e ≡ true → x u ≡ true → x v ≡ false →
      Within (size g) f → in_cut g x f ≡ true → (IsEnd g f u → ⊥) → MeetAt x v
  other_end x u v e f t we he xu xv wf cf off h wh ch = grind (arith, cut_ends, end_first, cases_eq, end_second, no_two_apart)

  -- all edges of a nontrivial tight cut have one vertex
  one_vertex : (x : Set) → IsTight g x → IsNontrivial g.order x → (w : ℕ) × Within g.order w × MeetAt x w
  one_vertex x t wide =
      let i = count_member g.order x (let k = wide.inside in omega arith) in
      let o = count_member g.order (complement x) (let k = wide.outside in omega arith) in
      let e = cut_edge g x i.0 o.0 is.ends cov i.1 o.1 i.2 (not-true (x o.0) o.2) in
      let c = cut_ends g x e.0 e.2 in
      let w = ends e.0 e.1 c.0 c.1 c.2 in
      elim (scan (size g) (λ f. (in_cut g x f ≡ true) × (IsEnd g f c.0 → ⊥)) (λ f. in_cut g x f ≡ true → IsEnd g f c.0) (λ f wf. choose f c.0)) [
        | inl f ↦ (c.1, w.1, other_end x c.0 c.1 e.0 f.0 t e.1 c.2 c.3 c.4 f.1 f.2.0 f.2.1)
        | inr all ↦ (c.0, w.0, all)
      ]
    where
      ends : (e : ℕ) → Within (size g) e → (u v : ℕ) → has_ends g u v e ≡ true → Within g.order u × Within g.order v
      ends e we u v h = elim (has_ends-cases g u v e h) [
        | inl p ↦ (subst (Within g.order) p.0 (is.ends e we).0, subst (Within g.order) p.1 (is.ends e we).1)
        | inr p ↦ (subst (Within g.order) p.1 (is.ends e we).1, subst (Within g.order) p.0 (is.ends e we).0)
      ]

      choose : (f u : ℕ) → ((in_cut g x f ≡ true) × (IsEnd g f u → ⊥)) ⊎ (in_cut g x f ≡ true → IsEnd g f u)
      choose f u = elim (end_or_not g f u) [
        | inl h ↦ inr (λ c. h)
        | inr never ↦ elim (cases_Bool (in_cut g x f)) [
          | inl c ↦ inl (c, never)
          | inr off ↦ inr (λ c. absurd (both_ways (in_cut g x f) off c))
        ]
      ]

  -- that vertex is not in the shore
  not_inside : (x : Set) (w : ℕ) → IsTight g x → IsNontrivial g.order x → Within g.order w → MeetAt x w → x w ≡ true → ⊥
  not_inside x w t wide ww all xw =
      let y : Set = minus x (singleton w) in
      let c = count_minus g.order x w ww xw in
      let i = count_member g.order y (let k = wide.inside in omega arith) in
      let m = cut_matching g y i.0 w is.ends cov i.1 ww i.2 (but_not (x w) (w == w) (eq-eqb w w refl)) in
      let d = count_member (size g) (λ e. m.0 e && in_cut g y e) (let k = m.2 in omega arith) in
      let p = and_parts (m.0 d.0) (in_cut g y d.0) d.2 in
      let s = cut_ends g y d.0 p.1 in
      let q = and_parts (x s.0) (not (w == s.0)) s.3 in
      let o = t.cut m.0 m.1 in
      let b = count_member (size g) (λ e. m.0 e && in_cut g x e) (omega arith) in
      let r = and_parts (m.0 b.0) (in_cut g x b.0) b.2 in
      elim (cases_Bool (x s.1)) [
        | inr off ↦
            let h = all d.0 d.1 (cut_from_ends g x s.0 s.1 d.0 s.2 q.0 off) in
            absurd (misses d.0 s.0 s.1 s.2 (λ z. both_ways (w == s.0) (not-true (w == s.0) q.1) (eq-eqb w s.0 z)) (λ z. both_ways (x s.1) off (ap x (sym z) ∙ xw)) h)
        | inl on ↦
            let z = last (x s.1) (w == s.1) on s.4 in
            let h = moved d.0 s.1 w (eqb-true w s.1 z) (end_second g s.0 s.1 d.0 s.2) in
            let two = two_ends_le_degree g m.0 b.0 d.0 w b.1 d.1 (λ e. both_ways (in_cut g x d.0) (inner d.0 s.0 s.1 s.2 q.0 on) (ap (in_cut g x) (sym e) ∙ r.1)) r.0 p.0 in
            let j = one_end g b.0 w (all b.0 b.1 r.1) in
            let k = one_end g d.0 w h in
            let l = m.1.once w ww refl in
            absurd (omega arith)
      ]
    where
      last : (s t : Bool) → s ≡ true → (s && not t) ≡ false → t ≡ true
      last s t p q = grind arith

      moved : (e v w : ℕ) → w ≡ v → IsEnd g e v → IsEnd g e w
      moved e v w q i = subst (IsEnd g e) (sym q) i

      misses : (e s t : ℕ) → has_ends g s t e ≡ true → w ≢ s → w ≢ t → IsEnd g e w → ⊥
      misses e s t h ws wt i = elim (has_ends-cases g s t e h) [
        | inl p ↦ elim i [
          | inl q ↦ ws (sym q ∙ p.0)
          | inr q ↦ wt (sym q ∙ p.1)
        ]
        | inr p ↦ elim i [
          | inl q ↦ wt (sym q ∙ p.0)
          | inr q ↦ ws (sym q ∙ p.1)
        ]
      ]

      inner : (e s t : ℕ) → has_ends g s t e ≡ true → x s ≡ true → x t ≡ true → in_cut g x e ≡ false
      inner e s t h xs xt = elim (has_ends-cases g s t e h) [
        | inl p ↦ rw (p.0, p.1, xs, xt) refl
        | inr p ↦ rw (p.0, p.1, xs, xt) refl
      ]

  uncut : HasOnlyTrivialTightCuts g
  uncut x t wide =
      let w = one_vertex x t wide in
      elim (cases_Bool (x w.0)) [
        | inl inside ↦ not_inside x w.0 t wide w.1 w.2 inside
        | inr off ↦ not_inside (complement x) w.0 (tight-turned g x t) (nontrivial-turned g.order x wide) w.1 (λ f wf h. w.2 f wf (back f h)) (ap not off)
      ]
    where
      back : (f : ℕ) → in_cut g (complement x) f ≡ true → in_cut g x f ≡ true
      back f h = sym (apart_denied true (x (first_end g f)) (x (second_end g f))) ∙ h

module _ (g : Graph) (is : IsMultigraph g) (six : 6 ≤ g.order) (joined : IsConnected g) (perfect : HasPerfect g none) (ext : IsTwoExtendable g) where
  covered : IsCovered g
  covered = extendable_covered g is six joined perfect ext

  pub extendable_uncut : IsCovered g × HasOnlyTrivialTightCuts g
  extendable_uncut = (covered, uncut g is covered ext)

  pub extendable_kinds : IsBrick g ⊎ IsBrace g
  extendable_kinds = grind (arith, bipartite-or, covered, uncut)

  pub extendable_brick : (IsBipartite g → ⊥) → IsThreeConnected g × IsBicritical g
  extendable_brick odd = (three_brick g is).0 (covered, odd, uncut g is covered ext)
