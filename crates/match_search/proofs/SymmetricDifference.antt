-- A matching that misses two vertices becomes perfect along one path, where a perfect matching
-- exists. The path goes on by the perfect matching's edge and the given one's in turn until it
-- meets the other missed vertex.
use Rattle.graph_core.proofs.Common.{perfect_matching, degree_put, ends_le_degree, ends_of, ends_of_is, bit_same, Graph, IsGraph, degree, size, HasEnds, IsMatching, IsPerfect}
use Rattle.graph_core.proofs.from_counting.Common.{◌≡◌, ℕ, suc, zero, ◌+◌, ◌*◌, ◌≤◌, ◌<◌, ◌≢◌, true, false, ◌==◌, refl, sym, ap, ◌∙◌, arith, not, eq-eqb, ne_eqb, ◌⊎◌, inl, inr, subst, ◌-◌, cases_eq, cases_Bool, cases_order, both_ways, true≢false, false_from_ne_true, count_le, odd-double, total_congr, not_not, Within, bit, count, is_odd, total, Set, put}
use Rattle.match_search.proofs.OddCycles.{same_ends, total_picked}
use Rattle.match_search.proofs.LongerPaths.{edge_spots, end_within, ends_by, extended, longer}
use Rattle.match_search.proofs.Forests.{met, one_edge, turned}
use Rattle.match_search.proofs.AlternatingPaths.{flipped_degree, flipped_off}
use Rattle.match_search.specs.Common.{picked, IsAlternating, IsPath, flipped}

-- a path has at most as many vertices as the graph
pub path_short : (g : Graph) (r : Set) (k : ℕ) (v e : ℕ → ℕ) → IsPath g r k v e → suc (k + k) ≤ g.order
path_short g r k v e p =
    let a = total_picked (suc (k + k)) g.order (λ i. true) (λ i. v (i - 1)) (λ u. 1) (λ i w t. p.within (i - 1) (omega arith)) (λ i j wi wj t s q. let z = p.apart (i - 1) (j - 1) (omega arith) (omega arith) q in omega arith) in
    let b = count_le g.order (picked (suc (k + k)) (λ i. true) (λ i. v (i - 1))) in
    let c : total g.order (λ u. bit (picked (suc (k + k)) (λ i. true) (λ i. v (i - 1)) u) * 1) ≡ count g.order (picked (suc (k + k)) (λ i. true) (λ i. v (i - 1))) = total_congr g.order _ _ (λ u w. omega arith) in
    let d = ones (suc (k + k)) in
    omega arith
  where
    ones : (n : ℕ) → total n (λ i. bit true * 1) ≡ n
    ones zero = refl
    ones (suc n) = omega (arith, ones n)

module _ (g : Graph) (is : IsGraph g) (r m n : Set) (mm : IsMatching g r m) (perfect : IsPerfect g r n) where
  nn : IsMatching g r n
  nn = perfect_matching g r n perfect

  no_loop : (f : Set) → IsMatching g r f → (d x y : ℕ) → Within (size g) d → f d ≡ true → HasEnds g d x y → x ≢ y
  no_loop f ff d x y w fd ends q = grind (arith, ends_le_degree g f d x w fd, ends_of_is g d x y ends x, bit_same x, eq-eqb y x (sym q), end_within g is d x y w ends)

  outside : (f : Set) → IsMatching g r f → (d x y : ℕ) → Within (size g) d → f d ≡ true → HasEnds g d x y → r x ≡ false
  outside f ff d x y w fd ends = false_from_ne_true (r x) (λ t. let a = ff.away x (end_within g is d x y w ends) t in let b = (met g f d x y w fd ends).0 in absurd (omega arith))

  -- a path by edges of n and of m in turn, and an edge of n at its end
  module _ (k : ℕ) (v e : ℕ → ℕ) (p : IsAlternating g r m k v e) (other : (i : ℕ) → i < k + k → n (e i) ≡ not (is_odd i)) (a w : ℕ) (wa : Within (size g) a) (na : n a ≡ true) (ends : HasEnds g a (v (k + k)) w) where
    before : (t : ℕ) → suc t ≤ k + k → HasEnds g (e t) (v (suc t)) (v t)
    before t l = turned g (e t) (v t) (v (suc t)) (p.path.ends t l)

    pub m_a : m a ≡ false
    m_a = false_from_ne_true (m a) (λ t. go k p.path.within before p.turns other p.path.real ends (met g m a (v (k + k)) w wa t ends).0 p.free t)
      where
        go : (k : ℕ) → ((i : ℕ) → i ≤ k + k → Within g.order (v i)) → ((t : ℕ) → suc t ≤ k + k → HasEnds g (e t) (v (suc t)) (v t)) → ((i : ℕ) → i < k + k → m (e i) ≡ is_odd i) → ((i : ℕ) → i < k + k → n (e i) ≡ not (is_odd i)) → ((i : ℕ) → i < k + k → Within (size g) (e i))
            → HasEnds g a (v (k + k)) w → 1 ≤ degree g m (v (k + k)) → degree g m (v 0) ≡ 0 → m a ≡ true → ⊥
        go zero within before turns other real ends l free t = let z : degree g m (v (zero + zero)) ≡ degree g m (v 0) = ap (λ i. degree g m (v i)) (omega arith) in omega arith
        go (suc k) within before turns other real ends l free t =
            let h : suc k + suc k ≡ suc (suc (k + k)) = omega arith in
            let en : HasEnds g a (v (suc (suc (k + k)))) w = subst (λ i. HasEnds g a (v i) w) h ends in
            let q = one_edge g r m mm a (e (suc (k + k))) (v (suc (suc (k + k)))) w (v (suc (k + k))) (within (suc (suc (k + k))) (omega arith)) wa (real (suc (k + k)) (omega arith)) t (turns (suc (k + k)) (omega arith) ∙ ap not (odd-double k)) en (before (suc (k + k)) (omega arith)) in
            both_ways (n a) (ap n q ∙ other (suc (k + k)) (omega arith) ∙ ap (λ b. not (not b)) (odd-double k)) na

    -- w is not on the path
    pub w_off : (t : ℕ) → t ≤ k + k → v t ≢ w
    w_off t l q = elim (cases_eq t (k + k)) [
      | inl s ↦ no_loop n nn a (v (k + k)) w wa na ends (ap v (sym s) ∙ q)
      | inr s ↦ elim (cases_Bool (is_odd t)) [
        | inr o ↦
            let en : HasEnds g a (v t) (v (k + k)) = turned g a (v (k + k)) (v t) (subst (λ z. HasEnds g a (v (k + k)) z) (sym q) ends) in
            let lt : t < k + k = below t (k + k) l s in
            let same = one_edge g r n nn a (e t) (v t) (v (k + k)) (v (suc t)) (p.path.within t l) wa (p.path.real t lt) na (other t lt ∙ ap not o) en (p.path.ends t lt) in
            elim (same_ends g a (v t) (v (k + k)) (v t) (v (suc t)) en (ends_by g a (e t) (v t) (v t) (v (suc t)) (v (suc t)) same refl refl (p.path.ends t lt))) [
              | inl z ↦ let y = p.path.apart (k + k) (suc t) (omega arith) (omega arith) z.1 in both_ways (is_odd (suc t)) (ap is_odd (sym y) ∙ odd-double k) (ap not o)
              | inr z ↦ let y = p.path.apart t (suc t) l (omega arith) z.0 in absurd (omega arith)
            ]
        | inl o ↦ odd_case t l s o q
      ]
    ]
      where
        below : (x y : ℕ) → x ≤ y → x ≢ y → x < y
        below x y l n = elim (cases_order x y) [ inl s ↦ absurd (n s) | inr s ↦ elim s [ inl t ↦ t | inr t ↦ absurd (omega arith) ] ]

        odd_case : (t : ℕ) → t ≤ k + k → t ≢ k + k → is_odd t ≡ true → v t ≡ w → ⊥
        odd_case zero l s o q = true≢false (sym o)
        odd_case (suc t) l s o q =
            let en : HasEnds g a (v (suc t)) (v (k + k)) = turned g a (v (k + k)) (v (suc t)) (subst (λ z. HasEnds g a (v (k + k)) z) (sym q) ends) in
            let same = one_edge g r n nn a (e t) (v (suc t)) (v (k + k)) (v t) (p.path.within (suc t) l) wa (p.path.real t l) na (other t l ∙ o) en (before t l) in
            elim (same_ends g a (v (suc t)) (v (k + k)) (v (suc t)) (v t) en (ends_by g a (e t) (v (suc t)) (v (suc t)) (v t) (v t) same refl refl (before t l))) [
              | inl z ↦ let y = p.path.apart (k + k) t (omega arith) (omega arith) z.1 in absurd (omega arith)
              | inr z ↦ let y = p.path.apart (suc t) t l (omega arith) z.0 in absurd (omega arith)
            ]

    -- the path with a, and the edge of m at w, if there is one
    module _ (d x : ℕ) (wd : Within (size g) d) (md : m d ≡ true) (pair_set : HasEnds g d w x) where
      n_d : n d ≡ false
      n_d = false_from_ne_true (n d) (λ t. let q = one_edge g r n nn d a w x (v (k + k)) (end_within g is d w x wd pair_set) wd wa t na pair_set (turned g a (v (k + k)) w ends) in both_ways (m a) m_a (ap m (sym q) ∙ md))

      x_off : (t : ℕ) → t ≤ k + k → v t ≢ x
      x_off zero l q = let a = (met g m d w x wd md pair_set).1 in let b = p.free in let c = ap (degree g m) q in absurd (omega arith)
      x_off (suc t) l q = elim (cases_Bool (is_odd (suc t))) [
        | inl o ↦
            let lt : suc t < k + k = below (suc t) (k + k) l (λ s. both_ways (is_odd (suc t)) (ap is_odd s ∙ odd-double k) o) in
            hit (suc t) (suc (suc t)) (e (suc t)) l lt (p.path.real (suc t) lt) (p.turns (suc t) lt ∙ o) (p.path.ends (suc t) lt) q
        | inr o ↦ hit (suc t) t (e t) l (omega arith) (p.path.real t l) (p.turns t l ∙ sym (not_not (is_odd t)) ∙ ap not o) (before t l) q
      ]
        where
          below : (x y : ℕ) → x ≤ y → x ≢ y → x < y
          below x y l n = elim (cases_order x y) [ inl s ↦ absurd (n s) | inr s ↦ elim s [ inl t ↦ t | inr t ↦ absurd (omega arith) ] ]

          hit : (i j c : ℕ) → i ≤ k + k → j ≤ k + k → Within (size g) c → m c ≡ true → HasEnds g c (v i) (v j) → v i ≡ x → ⊥
          hit i j c li lj wc mc en q =
              let pr : HasEnds g d (v i) w = turned g d w (v i) (subst (λ z. HasEnds g d w z) (sym q) pair_set) in
              let same = one_edge g r m mm d c (v i) w (v j) (p.path.within i li) wd wc md mc pr en in
              elim (same_ends g d (v i) w (v i) (v j) pr (ends_by g d c (v i) (v i) (v j) (v j) same refl refl en)) [
                | inl z ↦ w_off j lj (sym z.1)
                | inr z ↦ w_off i li (sym z.1)
              ]

      w_x : w ≢ x
      w_x = no_loop m mm d w x wd md pair_set

      pub further : IsAlternating g r m (suc k) (longer (suc (k + k)) v w x) (longer (k + k) e a d)
      further = extended g r m k v e p a w d x (λ j l. (w_off j l, x_off j l)) w_x (end_within g is d w x wd pair_set) (end_within g is d x w wd (turned g d w x pair_set))
          (outside m mm d w x wd md pair_set) (outside m mm d x w wd md (turned g d w x pair_set)) wa wd ends pair_set m_a md

      pub further_other : (i : ℕ) → i < suc k + suc k → n (longer (k + k) e a d i) ≡ not (is_odd i)
      further_other i l = grind (arith, edge_spots g r m k v e p a w d x i l, odd-double k, n_d)

    -- the end: m misses w, and misses nothing but v 0 and w
    pub mended : degree g m w ≡ 0 → ((u : ℕ) → Within g.order u → r u ≡ false → degree g m u ≡ 0 → (u ≡ v 0) ⊎ (u ≡ w)) → IsPerfect g r (put (flipped m e k) a true)
    mended dw singleton = record {
      once = λ u wu ru. let s = step u in elim (cases_eq (v 0) u) [
        | inl q ↦ let b = ap bit (eq-eqb (v 0) u q) in let c = ap bit (ne_eqb w u (λ z. w_off 0 (omega arith) (q ∙ sym z))) in let d = ap (degree g m) q in let f = p.free in omega arith
        | inr q ↦ let b = ap bit (ne_eqb (v 0) u q) in elim (cases_eq w u) [
          | inl z ↦ let c = ap bit (eq-eqb w u z) in let d = ap (degree g m) z in omega arith
          | inr z ↦ let c = ap bit (ne_eqb w u z) in let o = mm.once u wu in elim (cases_eq (degree g m u) 0) [
            | inl y ↦ elim (singleton u wu ru y) [ inl h ↦ absurd (q (sym h)) | inr h ↦ absurd (z (sym h)) ]
            | inr y ↦ omega arith
          ]
        ]
      ];
      away = λ u wu ru. let s = step u in let f = mm.away u wu ru in
          let b = ap bit (ne_eqb (v 0) u (λ q. both_ways (r u) (ap r (sym q) ∙ p.path.outside 0 (omega arith)) ru)) in
          let c = ap bit (ne_eqb w u (λ q. both_ways (r u) (ap r (sym q) ∙ outside n nn a w (v (k + k)) wa na (turned g a (v (k + k)) w ends)) ru)) in omega arith;
    }
      where
        kk : k ≤ k
        kk = omega arith

        off : flipped m e k a ≡ false
        off = flipped_off g r m mm k v e p k a kk (λ j l q. elim (same_ends g a (v (k + k)) w (v j) (v (suc j)) ends (ends_by g a (e j) (v j) (v j) (v (suc j)) (v (suc j)) q refl refl (p.path.ends j l))) [
          | inl z ↦ w_off (suc j) (omega arith) (sym z.1)
          | inr z ↦ w_off j (omega arith) (sym z.1)
        ]) ∙ m_a

        step : (u : ℕ) → degree g (put (flipped m e k) a true) u ≡ degree g m u + (bit (v 0 == u) + bit (w == u))
        step u = let x = degree_put g (flipped m e k) a true u wa in let y = flipped_degree g r m mm k v e p k u kk in
            let z = ends_of_is g a (v (k + k)) w ends u in let o = ap (λ b. bit b * ends_of g a u) off in omega arith
