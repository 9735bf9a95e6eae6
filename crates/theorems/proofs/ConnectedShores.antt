-- A tight shore of a covered graph is connected: it is one component of the graph without the
-- other shore. Else it splits into a component C and the rest D, no edge joins the two, and
-- perfect matchings make |C| both odd and even.
use Rattle.tree_check.proofs.from_counting.Common.{◌≡◌, ℕ, ◌+◌, Bool, true, ◌&&◌, ◌||◌, not, refl, sym, ap, ◌∙◌, arith, inl, inr, cases_Bool, not-false, but_from, but_not, total_add, total_congr, Within, bit, Set, complement, minus}
use Rattle.barrier_kit.proofs.Common.{part_step, cut_matching}
use Rattle.graph_core.proofs.Common.{joined_outside, joined_walk, walk_joined, parity, joined_self, IsCovered, Graph, IsGraph, edges_in_cut, first_end, in_cut, second_end, size, CutIsTight, Joined, joined}

module _ (g : Graph) (x : Set) (u : ℕ) (is : IsGraph g) (wu : Within g.order u) (xu : x u ≡ true) where
  -- the component of u in the shore, and the rest of the shore
  abbrev part : Set
  part = joined g (complement x) u

  abbrev rest : Set
  rest = minus x part

  part_in : (v : ℕ) → part v ≡ true → x v ≡ true
  part_in v j = not-false (x v) (joined_outside g (complement x) is u v (ap not xu) j)

  -- no edge joins the two
  split_cut : (m : Set) → edges_in_cut g m part + edges_in_cut g m rest ≡ edges_in_cut g m x
  split_cut m =
      sym (total_add (size g) (λ e. bit (m e && in_cut g part e)) (λ e. bit (m e && in_cut g rest e)))
      ∙ total_congr (size g) _ _ (λ e w. go e w (x (first_end g e)) (x (second_end g e)) (part (first_end g e)) (part (second_end g e)) refl refl refl refl)
    where
      go : (e : ℕ) → Within (size g) e → (a b c d : Bool) → x (first_end g e) ≡ a → x (second_end g e) ≡ b → part (first_end g e) ≡ c → part (second_end g e) ≡ d →
          bit (m e && in_cut g part e) + bit (m e && in_cut g rest e) ≡ bit (m e && in_cut g x e)
      go e w a b c d p q r s = rw (p, q, r, s) (bits (m e) a b c d (λ t. sym p ∙ part_in (first_end g e) (r ∙ t)) (λ t. sym q ∙ part_in (second_end g e) (s ∙ t))
          (λ i j. sym r ∙ part_step g (complement x) u e is wu w (ap not (p ∙ i)) (ap not (q ∙ j)) ∙ s))
        where
          bits : (k a b c d : Bool) → (c ≡ true → a ≡ true) → (d ≡ true → b ≡ true) → (a ≡ true → b ≡ true → c ≡ d) →
              bit (k && ((c && not d) || (not c && d))) + bit (k && (((a && not c) && not (b && not d)) || (not (a && not c) && (b && not d)))) ≡ bit (k && ((a && not b) || (not a && b)))
          bits k a b c d h i l = grind arith

-- two vertices of a tight shore are joined inside it
pub tight_joined : (g : Graph) (x : Set) (u v : ℕ) → IsGraph g → IsCovered g → CutIsTight g x → Within g.order u → Within g.order v → x u ≡ true → x v ≡ true → Joined g (complement x) u v
tight_joined g x u v is cov tight wu wv xu xv = elim (cases_Bool (part g x u is wu xu v)) [
  | inl t ↦ joined_walk g (complement x) u v t
  | inr f ↦
      let c : Set = part g x u is wu xu in
      let d : Set = rest g x u is wu xu in
      let cu : c u ≡ true = walk_joined g (complement x) is u u wu (joined_self g (complement x) u) in
      let m = cut_matching g c u v is cov wu wv cu f in
      let k = cut_matching g d v u is cov wv wu (but_from (x v) (c v) xv f) (but_not (x u) (c u) cu) in
      let a = split_cut g x u is wu xu m.0 in
      let b = split_cut g x u is wu xu k.0 in
      let i = tight m.0 m.1 in
      let j = tight k.0 k.1 in
      let p = parity g is m.0 c m.1 in
      let q = parity g is k.0 c k.1 in
      let r = m.2 in
      let s = k.2 in absurd (omega arith)
]
