-- Four regions of a matching covered graph, two of them single blocks u and v: if b has an even
-- number of blocks and no edge to a, a perfect matching with an edge from u to b has an edge from v
-- to b.
use Rattle.graph_core.proofs.from_counting.Common.{Bool, List, ap, ap₂, arith, eq-eqb, false, inl, inr, ne_eqb, not, refl, suc, sym, true, ℕ, ◌&&◌, ◌+◌, ◌==◌, ◌||◌, ◌∙◌, ◌≡◌, ◌≢◌, ◌≤◌, and_from, both_ways, cases_Bool, odd-double, some_none, some_true, at_le_total, total_add, total_le, Within, bit, count, is_odd, Set, some}
use Rattle.graph_core.proofs.Common.{at_place, contracted-ends, contracted-graph, contracted-size, place_in, parity, IsCovered, Graph, IsGraph, connects, first_end, in_cut, inside, second_end, size, Allowed, AreBlocks, contracted, place, IsUnion, block_count, blocks_in}
use Rattle.tree_core.proofs.Common.{IsBlockOf}

-- some edge joins x and y
abbrev pub Link : Graph → Set → Set → Type 0
Link g x y = (e : ℕ) × Within (size g) e × (connects g x y e ≡ true)

-- four regions, each vertex in one of them: a and b have no edge between them, and u and v are
-- blocks
pub record FourRegions (g : Graph) (p : List (List ℕ)) (a u b v : Set) (s t : ℕ) : Type 0 where
  pub first : IsUnion g.order p a
  pub second : IsUnion g.order p b
  pub left : IsBlockOf g.order p u s
  pub right : IsBlockOf g.order p v t
  pub once : (w : ℕ) → Within g.order w → bit (a w) + bit (u w) + bit (b w) + bit (v w) ≡ 1
  pub parted : (e : ℕ) → Within (size g) e → connects g a b e ≡ false

module _ (g : Graph) (is : IsGraph g) (p : List (List ℕ)) (pp : AreBlocks g.order p) (cov : IsCovered (contracted g p)) (a u b v : Set) (s t : ℕ) (four : FourRegions g p a u b v s t) where
  -- blocks of the shrunk graph against vertices
  at_near : (x : Set) → IsUnion g.order p x → (e : ℕ) → Within (size g) e → blocks_in p x (first_end (contracted g p) e) ≡ x (first_end g e)
  at_near x ux e w = ap (blocks_in p x) (contracted-ends g p e w).0 ∙ at_place g.order p pp x ux (first_end g e) (is e w).0

  at_far : (x : Set) → IsUnion g.order p x → (e : ℕ) → Within (size g) e → blocks_in p x (second_end (contracted g p) e) ≡ x (second_end g e)
  at_far x ux e w = ap (blocks_in p x) (contracted-ends g p e w).1 ∙ at_place g.order p pp x ux (second_end g e) (is e w).1

  here : (e : ℕ) → Within (size (contracted g p)) e → Within (size g) e
  here e w = let q = contracted-size g p in (omega arith, omega arith)

  at_s : (w : ℕ) → Within g.order w → (place p w == place p s) ≡ u w
  at_s w ww = elim (cases_Bool (u w)) [
    | inl h ↦ eq-eqb (place p w) (place p s) (four.left.one w ww h) ∙ sym h
    | inr h ↦ ne_eqb (place p w) (place p s) (λ e. both_ways (u w) h (four.left.closed w s ww four.left.within e ∙ four.left.holds)) ∙ sym h
  ]

  -- an edge from u to b shows one from v to b, by parity
  pub hard_pair : is_odd (block_count p b) ≡ false → Link g u b → Link g v b
  unfolding contracted
  hard_pair even l = elim (cases_Bool (some (size g) (connects g v b))) [
    | inl h ↦ some_true (size g) (connects g v b) h
    | inr h ↦ absurd (none_left h)
  ]
    where
      h : Graph
      h = contracted g p

      wl : Within (size h) l.0
      wl = let q = contracted-size g p in let w = l.1 in (omega arith, omega arith)

      no_loop : first_end h l.0 ≢ second_end h l.0
      no_loop e = clash (u (first_end g l.0)) (b (second_end g l.0)) (b (first_end g l.0)) (u (second_end g l.0)) l.2 same_u same_b
          (apart (a (first_end g l.0)) (u (first_end g l.0)) (b (first_end g l.0)) (v (first_end g l.0)) (four.once (first_end g l.0) (is l.0 l.1).0))
        where
          pe : place p (first_end g l.0) ≡ place p (second_end g l.0)
          pe = sym (contracted-ends g p l.0 l.1).0 ∙ e ∙ (contracted-ends g p l.0 l.1).1

          same_u : u (first_end g l.0) ≡ u (second_end g l.0)
          same_u = four.left.closed (first_end g l.0) (second_end g l.0) (is l.0 l.1).0 (is l.0 l.1).1 pe

          same_b : b (first_end g l.0) ≡ b (second_end g l.0)
          same_b = four.second (first_end g l.0) (second_end g l.0) (is l.0 l.1).0 (is l.0 l.1).1 pe

          apart : (a u b v : Bool) → bit a + bit u + bit b + bit v ≡ 1 → (u && b) ≡ false
          apart a u b v h = grind arith

          clash : (un bf bn uf : Bool) → ((un && bf) || (bn && uf)) ≡ true → un ≡ uf → bn ≡ bf → (un && bn) ≡ false → ⊥
          clash un bf bn uf k q r z = grind arith

      m : Allowed h l.0
      m = cov.allowed l.0 wl no_loop

      c : ℕ
      c = place p s

      cut : ℕ
      cut = count (size h) (λ e. m.0 e && in_cut h (blocks_in p b) e)

      none_left : some (size g) (connects g v b) ≡ false → ⊥
      none_left f =
          let in_two = parity h (contracted-graph g p is pp) m.0 (blocks_in p b) m.1 in
          let k = count (size h) (λ e. m.0 e && inside h (blocks_in p b) e) in
          let low : 1 ≤ cut = pos in
          let high : cut ≤ 1 = top in
          let e : count h.order (blocks_in p b) ≡ suc (k + k) = omega arith in
          both_ways (is_odd (block_count p b)) even (ap is_odd e ∙ ap not (odd-double k))
        where
          crossing : (e : ℕ) → Within (size h) e → in_cut h (blocks_in p b) e ≡ in_cut g b e
          crossing e w = ap₂ (λ x y. (x && not y) || (not x && y)) (at_near b four.second e (here e w)) (at_far b four.second e (here e w))

          pos : 1 ≤ cut
          pos = let z = at_le_total (size h) (λ e. bit (m.0 e && in_cut h (blocks_in p b) e)) l.0 wl in
              let o : bit (m.0 l.0 && in_cut h (blocks_in p b) l.0) ≡ 1 = ap bit (and_from (m.0 l.0) (in_cut h (blocks_in p b) l.0) m.2 (crossing l.0 wl ∙ over)) in omega arith
            where
              over : in_cut g b l.0 ≡ true
              over = go (a (first_end g l.0)) (u (first_end g l.0)) (b (first_end g l.0)) (v (first_end g l.0)) (a (second_end g l.0)) (u (second_end g l.0)) (b (second_end g l.0)) (v (second_end g l.0)) (four.once (first_end g l.0) (is l.0 l.1).0) (four.once (second_end g l.0) (is l.0 l.1).1) l.2
                where
                  go : (a u b v a' u' b' v' : Bool) → bit a + bit u + bit b + bit v ≡ 1 → bit a' + bit u' + bit b' + bit v' ≡ 1 → ((u && b') || (b && u')) ≡ true → ((b && not b') || (not b && b')) ≡ true
                  go a u b v a' u' b' v' h i k = grind arith

          top : cut ≤ 1
          top =
              let d = m.1.once c (place_in g.order p pp s four.left.within).0 refl in
              let le = total_le (size h) (λ e. bit (m.0 e && in_cut h (blocks_in p b) e)) (λ e. bit (m.0 e && (first_end h e == c)) + bit (m.0 e && (second_end h e == c))) each in
              let sum = total_add (size h) (λ e. bit (m.0 e && (first_end h e == c))) (λ e. bit (m.0 e && (second_end h e == c))) in omega arith
            where
              each : (e : ℕ) → Within (size h) e → bit (m.0 e && in_cut h (blocks_in p b) e) ≤ bit (m.0 e && (first_end h e == c)) + bit (m.0 e && (second_end h e == c))
              each e w =
                  let we = here e w in
                  rw (crossing e w, ap (λ k. k == c) (contracted-ends g p e we).0 ∙ at_s (first_end g e) (is e we).0, ap (λ k. k == c) (contracted-ends g p e we).1 ∙ at_s (second_end g e) (is e we).1)
                  (go (m.0 e) (a (first_end g e)) (u (first_end g e)) (b (first_end g e)) (v (first_end g e)) (a (second_end g e)) (u (second_end g e)) (b (second_end g e)) (v (second_end g e))
                  (four.once (first_end g e) (is e we).0) (four.once (second_end g e) (is e we).1) (four.parted e we) (some_none (size g) (connects g v b) f e we))
                where
                  go : (k a u b v a' u' b' v' : Bool) → bit a + bit u + bit b + bit v ≡ 1 → bit a' + bit u' + bit b' + bit v' ≡ 1 → ((a && b') || (b && a')) ≡ false → ((v && b') || (b && v')) ≡ false →
                      bit (k && ((b && not b') || (not b && b'))) ≤ bit (k && u) + bit (k && u')
                  go k a u b v a' u' b' v' h i l m = grind arith
