-- An edge between two outer vertices whose paths meet closes an odd cycle that begins at a vertex
-- which can be missed. The paths meet last at an outer vertex; from there along one path, over
-- the edge and back along the other.
use Rattle.graph_core.proofs.from_counting.Common.{◌≡◌, ℕ, suc, zero, ◌+◌, ◌-◌, ◌≤◌, ◌<◌, ◌≢◌, Bool, true, false, cond, ◌==◌, refl, sym, ap, ap₂, ◌∙◌, arith, ◌&&◌, ◌||◌, not, eq-eqb, ne_eqb, eqb-true, ◌⊎◌, inl, inr, subst, nat_lt, nat_le, le-ltb, rules, not_not, cases_eq, cases_Bool, cases_lt, cases_order, both_ways, true≢false, and_parts, le-leb, lt-leb, odd-add, odd-double, some_true, Within, count, is_odd, Set}
use Rattle.graph_core.proofs.Common.{Graph, degree, size, HasEnds, IsMatching}
use Rattle.match_search.proofs.OddCycles.{next_in, same_ends}
use Rattle.match_search.proofs.LongerPaths.{ends_by}
use Rattle.match_search.proofs.Forests.{one_edge, turned}
use Rattle.match_search.proofs.AlternatingPaths.{flipped_count, flipped_end, flipped_matching, flipped_off}
use Rattle.match_search.specs.Common.{IsOddCycle, next, every_other, picked, IsAlternating, flipped}

-- the summand of an even sum whose other summand is even
even_part : (m j t : ℕ) → m + j ≡ t → is_odd j ≡ false → is_odd t ≡ false → is_odd m ≡ false
even_part m j t q oj ot = grind (arith, odd-add, true≢false)

module _ (g : Graph) (r f : Set) (mm : IsMatching g r f) (inner : Set) (k l : ℕ) (p a q b : ℕ → ℕ) (pp : IsAlternating g r f k p a) (qq : IsAlternating g r f l q b)
    (p_sides : (s : ℕ) → s ≤ k + k → inner (p s) ≡ is_odd s) (q_sides : (s : ℕ) → s ≤ l + l → inner (q s) ≡ is_odd s)
    (d : ℕ) (wd : Within (size g) d) (closing : HasEnds g d (p (k + k)) (q (l + l))) (two : p (k + k) ≢ q (l + l)) (fd : f d ≡ false)
    (i j : ℕ) (li : i ≤ k + k) (lj : j ≤ l + l) (meet : p i ≡ q j) (latest : (s t : ℕ) → i < s → s ≤ k + k → t ≤ l + l → p s ≢ q t) where
  same_side : is_odd i ≡ is_odd j
  same_side = sym (p_sides i li) ∙ ap inner meet ∙ q_sides j lj

  -- the paths meet at an even place
  even_i : is_odd i ≡ false
  even_i = elim (cases_Bool (is_odd i)) [
    | inr o ↦ o
    | inl o ↦
        let oj : is_odd j ≡ true = sym same_side ∙ o in
        let ik : i ≢ k + k = λ s. both_ways (is_odd i) (ap is_odd s ∙ odd-double k) o in
        let jl : j ≢ l + l = λ s. both_ways (is_odd j) (ap is_odd s ∙ odd-double l) oj in
        let wi : i < k + k = below i (k + k) li ik in
        let wj : j < l + l = below j (l + l) lj jl in
        let e1 = pp.path.ends i wi in
        let e2 = subst (λ z. HasEnds g (b j) z (q (suc j))) (sym meet) (qq.path.ends j wj) in
        let one = one_edge g r f mm (a i) (b j) (p i) (p (suc i)) (q (suc j)) (pp.path.within i li) (pp.path.real i wi) (qq.path.real j wj) (pp.turns i wi ∙ o) (qq.turns j wj ∙ oj) e1 e2 in
        elim (same_ends g (a i) (p i) (p (suc i)) (p i) (q (suc j)) e1 (ends_by g (a i) (b j) (p i) (p i) (q (suc j)) (q (suc j)) one refl refl e2)) [
          | inl s ↦ absurd (latest (suc i) (suc j) (omega arith) (omega arith) (omega arith) s.1)
          | inr s ↦ let x = pp.path.apart (suc i) i (omega arith) li s.1 in absurd (omega arith)
        ]
  ]
    where
      below : (x y : ℕ) → x ≤ y → x ≢ y → x < y
      below x y l n = elim (cases_order x y) [ inl s ↦ absurd (n s) | inr s ↦ elim s [ inl t ↦ t | inr t ↦ absurd (omega arith) ] ]

  pub even_j : is_odd j ≡ false
  even_j = sym same_side ∙ even_i

  module _ (m x : ℕ) (mj : m + j ≡ l + l) (xi : x + i ≡ k + k) where
    -- from the meeting vertex along q, over the closing edge, and back along p
    abbrev pub around : ℕ → ℕ
    around s = cond (nat_le s (suc m)) (q (j + s - 1)) (p (k + k + suc (suc m) - s))

    abbrev pub edges_around : ℕ → ℕ
    edges_around s = cond (nat_le s m) (b (j + s - 1)) (cond (s == suc m) d (a (k + k + suc m - s)))

    abbrev pub length_around : ℕ
    length_around = suc (m + x)

    even_m : is_odd m ≡ false
    even_m = even_part m j (l + l) mj even_j (odd-double l)

    even_x : is_odd x ≡ false
    even_x = even_part x i (k + k) xi even_i (odd-double k)

    pub low : (y : ℕ) → y ≤ m → around (suc y) ≡ q (j + y)
    low y le = grind (arith, le-leb (suc y) (suc m))

    pub high : (s y : ℕ) → y ≤ k + k → s + y ≡ k + k + suc (suc m) → around s ≡ p y
    high s y le e = grind (arith, lt-leb s (suc m))

    pub edge_low : (y : ℕ) → y < m → edges_around (suc y) ≡ b (j + y)
    edge_low y le = ap (λ t. cond t (b (j + suc y - 1)) (cond (suc y == suc m) d (a (k + k + suc m - suc y)))) (le-leb (suc y) m (omega arith)) ∙ ap b (omega arith)

    pub edge_mid : edges_around (suc m) ≡ d
    edge_mid = ap (λ t. cond t (b (j + suc m - 1)) (cond (suc m == suc m) d (a (k + k + suc m - suc m)))) (lt-leb (suc m) m (omega arith)) ∙ ap (λ t. cond t d (a (k + k + suc m - suc m))) (eq-eqb (suc m) (suc m) refl)

    pub edge_high : (s y : ℕ) → y < k + k → s + suc y ≡ k + k + suc (suc m) → edges_around s ≡ a y
    edge_high s y le e =
        ap (λ t. cond t (b (j + s - 1)) (cond (s == suc m) d (a (k + k + suc m - s)))) (lt-leb s m (omega arith))
        ∙ ap (λ t. cond t d (a (k + k + suc m - s))) (ne_eqb s (suc m) (λ z. absurd (omega arith)))
        ∙ ap a (omega arith)

    -- where a place is
    pub spot : (s : ℕ) → Within length_around s → ((y : ℕ) × (y ≤ m) × (s ≡ suc y)) ⊎ ((y : ℕ) × (i < y) × (y ≤ k + k) × (s + y ≡ k + k + suc (suc m)))
    spot s w = elim (cases_lt (suc m) s) [
      | inr t ↦ inl (s - 1, omega arith, omega arith)
      | inl t ↦ inr (k + k + suc (suc m) - s, omega arith, omega arith, omega arith)
    ]

    pub edge_spot : (s : ℕ) → Within length_around s → ((y : ℕ) × (y < m) × (s ≡ suc y)) ⊎ ((s ≡ suc m) ⊎ ((y : ℕ) × (i ≤ y) × (y < k + k) × (s + suc y ≡ k + k + suc (suc m))))
    edge_spot s w = elim (cases_order s (suc m)) [
      | inl t ↦ inr (inl t)
      | inr t ↦ elim t [
        | inl t ↦ inl (s - 1, omega arith, omega arith)
        | inr t ↦ inr (inr (k + k + suc m - s, omega arith, omega arith, omega arith))
      ]
    ]

    by_spot : (P : ℕ → Type 0) → ((t : ℕ) → t ≤ l + l → P (q t)) → ((t : ℕ) → t ≤ k + k → P (p t)) → (s : ℕ) → Within length_around s → P (around s)
    by_spot P on_q on_p s w = search (rules, spot s w, high s)

    apart : (s t : ℕ) → Within length_around s → Within length_around t → around s ≡ around t → s ≡ t
    apart s t ws wt e = elim (spot s ws) [
      | inl y ↦ elim (spot t wt) [
        | inl z ↦ let c = qq.path.apart (j + y.0) (j + z.0) (let h = y.1 in omega arith) (let h = z.1 in omega arith) (sym (ap around y.2 ∙ low y.0 y.1) ∙ e ∙ ap around z.2 ∙ low z.0 z.1) in let u = y.2 in let v = z.2 in omega arith
        | inr z ↦ absurd (latest z.0 (j + y.0) z.1 z.2 (let h = y.1 in omega arith) (sym (high t z.0 z.2 z.3) ∙ sym e ∙ ap around y.2 ∙ low y.0 y.1))
      ]
      | inr y ↦ elim (spot t wt) [
        | inl z ↦ absurd (latest y.0 (j + z.0) y.1 y.2 (let h = z.1 in omega arith) (sym (high s y.0 y.2 y.3) ∙ e ∙ ap around z.2 ∙ low z.0 z.1))
        | inr z ↦ let c = pp.path.apart y.0 z.0 y.2 z.2 (sym (high s y.0 y.2 y.3) ∙ e ∙ high t z.0 z.2 z.3) in let u = y.3 in let v = z.3 in omega arith
      ]
    ]

    first_is : around 1 ≡ p i
    first_is = low 0 (omega arith) ∙ ap q (omega arith) ∙ sym meet

    next_end : (s : ℕ) → s ≡ length_around → next length_around s ≡ 1
    next_end s e = ap (λ t. cond t 1 (suc s)) (eq-eqb s length_around e)

    next_on : (s : ℕ) → s ≢ length_around → next length_around s ≡ suc s
    next_on s e = ap (λ t. cond t 1 (suc s)) (ne_eqb s length_around e)

    after_mid : around (next length_around (suc m)) ≡ p (k + k)
    after_mid = search (rules, cases_eq x 0, next_end (suc m), first_is, next_on (suc m), high (suc (suc m)) (k + k))

    ends : (s : ℕ) → Within length_around s → HasEnds g (edges_around s) (around s) (around (next length_around s))
    ends s w = elim (edge_spot s w) [
      | inl t ↦ let z = t.1 in let h = t.2 in
          ends_by g (edges_around s) (b (j + t.0)) (around s) (q (j + t.0)) (around (next length_around s)) (q (suc (j + t.0)))
          (ap edges_around t.2 ∙ edge_low t.0 t.1)
          (ap around t.2 ∙ low t.0 (omega arith))
          (ap around (next_on s (λ c. absurd (omega arith)) ∙ ap suc t.2) ∙ low (suc t.0) (omega arith) ∙ ap q (omega arith))
          (qq.path.ends (j + t.0) (omega arith))
      | inr t ↦ elim t [
        | inl t ↦
            ends_by g (edges_around s) d (around s) (q (l + l)) (around (next length_around s)) (p (k + k))
            (ap edges_around t ∙ edge_mid)
            (ap around t ∙ low m (omega arith) ∙ ap q (omega arith))
            (ap (λ z. around (next length_around z)) t ∙ after_mid)
            (turned g d (p (k + k)) (q (l + l)) closing)
        | inr t ↦
            let z1 = t.1 in let z2 = t.2 in let z3 = t.3 in
            ends_by g (edges_around s) (a t.0) (around s) (p (suc t.0)) (around (next length_around s)) (p t.0)
            (edge_high s t.0 t.2 t.3)
            (high s (suc t.0) (omega arith) t.3)
            (elim (cases_eq t.0 i) [
              | inl c ↦ ap around (next_end s (omega arith)) ∙ first_is ∙ ap p (sym c)
              | inr c ↦ ap around (next_on s (λ h. absurd (omega arith))) ∙ high (suc s) t.0 (omega arith) (omega arith)
            ])
            (turned g (a t.0) (p t.0) (p (suc t.0)) (pp.path.ends t.0 t.2))
      ]
    ]

    pub cycle : IsOddCycle g r length_around around edges_around
    cycle = record {
      odd = ap not (odd-add m x ∙ ap₂ (λ s t. cond s (not t) t) even_m even_x);
      three = three (m + x) (odd-add m x ∙ ap₂ (λ s t. cond s (not t) t) even_m even_x) (λ z. two (ap p (same (k + k) i (omega arith)) ∙ meet ∙ ap q (same j (l + l) (omega arith))));
      apart = apart;
      within = by_spot (λ z. Within g.order z) qq.path.within pp.path.within;
      outside = by_spot (λ z. r z ≡ false) qq.path.outside pp.path.outside;
      real = λ s w. elim (edge_spot s w) [
        | inl t ↦ subst (λ z. Within (size g) z) (sym (ap edges_around t.2 ∙ edge_low t.0 t.1)) (qq.path.real (j + t.0) (let z = t.1 in omega arith))
        | inr t ↦ grind (arith, edge_mid, edge_high s)
      ];
      ends = ends;
    }
      where
        same : (u v : ℕ) → u ≡ v → u ≡ v
        same u v h = h

        three : (t : ℕ) → is_odd t ≡ false → t ≢ 0 → 3 ≤ suc t
        three zero o n = absurd (n refl)
        three (suc zero) o n = absurd (true≢false o)
        three (suc (suc t)) o n = omega arith

    -- every other edge of the cycle is in f
    turns : (s : ℕ) → Within length_around s → f (edges_around s) ≡ not (is_odd s)
    turns s w = elim (edge_spot s w) [
      | inl t ↦ let z = t.1 in ap f (ap edges_around t.2 ∙ edge_low t.0 t.1) ∙ qq.turns (j + t.0) (omega arith) ∙ odd-add j t.0 ∙ ap (λ c. cond c (not (is_odd t.0)) (is_odd t.0)) even_j ∙ sym (not_not (is_odd t.0)) ∙ sym (ap (λ c. not (is_odd c)) t.2)
      | inr t ↦ elim t [
        | inl t ↦ ap f (ap edges_around t ∙ edge_mid) ∙ fd ∙ sym (ap (λ c. not (is_odd c)) t ∙ ap (λ c. not (not c)) even_m)
        | inr t ↦ ap f (edge_high s t.0 t.2 t.3) ∙ pp.turns t.0 t.2 ∙ parity (is_odd s) (is_odd t.0) (sym (odd-add s (suc t.0)) ∙ ap is_odd t.3 ∙ odd-add (k + k) (suc (suc m)) ∙ ap₂ (λ c e. cond c (not e) e) (odd-double k) (not_not (is_odd m) ∙ even_m))
      ]
    ]
      where
        parity : (c e : Bool) → cond c (not (not e)) (not e) ≡ false → e ≡ not c
        parity c e h = grind arith

    module _ (h : ℕ) (jh : j ≡ h + h) where
      h_l : h ≤ l
      h_l = omega arith

      -- f with the path to the cycle exchanged
      abbrev pub stem : Set
      stem = flipped f b h

      off_cycle : (s y : ℕ) → Within length_around s → y < j → around s ≢ q y
      off_cycle s y w ly e = elim (spot s w) [
        | inl t ↦ let z = t.1 in let c = qq.path.apart (j + t.0) y (omega arith) (omega arith) (sym (ap around t.2 ∙ low t.0 t.1) ∙ e) in absurd (omega arith)
        | inr t ↦ latest t.0 y t.1 t.2 (omega arith) (sym (high s t.0 t.2 t.3) ∙ e)
      ]

      stem_same : (s : ℕ) → Within length_around s → stem (edges_around s) ≡ f (edges_around s)
      stem_same s w = flipped_off g r f mm l q b qq h (edges_around s) h_l (λ y ly e.
          elim (same_ends g (edges_around s) (around s) (around (next length_around s)) (q y) (q (suc y)) (ends s w) (subst (λ z. HasEnds g z (q y) (q (suc y))) (sym e) (qq.path.ends y (omega arith)))) [
            | inl t ↦ off_cycle s y w (omega arith) t.0
            | inr t ↦ off_cycle (next length_around s) y (next_in length_around s w) (omega arith) t.1
          ])

      pub stem_matching : IsMatching g r stem
      stem_matching = flipped_matching g r f mm l q b qq h h_l

      pub stem_count : count (size g) stem ≡ count (size g) f
      stem_count = flipped_count g r f mm l q b qq h h_l

      pub stem_free : degree g stem (around 1) ≡ 0
      stem_free = search (rules, flipped_end g r f mm l q b qq h h_l, h_l)

      pub stem_holds : (c : ℕ) → Within (size g) c → picked length_around (every_other 1) edges_around c ≡ true → stem c ≡ true
      stem_holds c w t =
          let s = some_true length_around (λ y. every_other 1 y && (edges_around y == c)) t in
          let z = and_parts (every_other 1 s.0) (edges_around s.0 == c) s.2 in
          ap stem (sym (eqb-true (edges_around s.0) c z.1)) ∙ stem_same s.0 s.1 ∙ turns s.0 s.1 ∙ (grind (arith, go, nat_lt, le-ltb, true≢false))
        where
          go : (x y o : Bool) → x ≡ false → ((x && o) || (y && not o)) ≡ true → o ≡ false
          go x y o p q = grind arith
