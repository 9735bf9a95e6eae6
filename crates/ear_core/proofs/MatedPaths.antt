-- Paths of two perfect matchings. From v the edges of m and n are followed in turn; the vertices
-- passed hold their mates, so a new vertex comes each time, and the path ends at a vertex of the
-- stage.
use Rattle.graph_core.proofs.from_counting.Common.{◌≡◌, ℕ, ◌+◌, ◌≤◌, ◌≢◌, true, false, ◌==◌, refl, sym, ap, ◌∙◌, arith, ◌||◌, not, eq-eqb, ne_eqb, eqb-true, ◌⊎◌, inl, inr, subst, [], ◌∷◌, List, cases_eq, cases_Bool, both_ways, true≢false, false_from_ne_true, not-true, or_left, or_right, or_cases, count_more, times_mem, Within, bit, count, mem, times, Set, complement}
use Rattle.ear_core.proofs.TraceEdges.{start_mem}
use Rattle.ear_core.proofs.Mates.{AreMates, mate_back, mate_within}
use Rattle.ear_core.specs.Common.{mate, KeepsMates, LeadsAlternately, IsClear, last_vertex, trail}
use Rattle.graph_core.proofs.Common.{Graph, IsGraph, first_end, second_end}

module _ (g : Graph) (is : IsGraph g) (met : Set) (m : ℕ → ℕ) (pm : AreMates g m) (n : ℕ → ℕ) (pn : AreMates g n) (inv : KeepsMates g n met) where
  out_n : (w : ℕ) → Within g.order w → met w ≡ false → met (mate g n w) ≡ false
  out_n w ww o = false_from_ne_true (met (mate g n w)) (λ t. both_ways (met w) o (ap met (sym (mate_back g is n pn w ww)) ∙ inv (mate g n w) (mate_within g is n pn w ww) t))

  pub path_ends : (z : Set) (v : ℕ) → Within g.order v → IsClear g met m n z v → met (mate g m v) ≡ true → LeadsAlternately g met m n z v (m v ∷ [])
  path_ends z v wv c t = record {
    follow = ((pm.within v wv, pm.at v wv), tt);
    odd = refl;
    once = λ w. grind arith;
    end = t;
    inner = λ w i d e. absurd (elim (two w i) [ inl j ↦ d (sym j) | inr j ↦ e (sym j) ]);
    new = λ e i. elim (or_cases (m v == e) false i) [ inl j ↦ inl (sym (eqb-true (m v) e j)) | inr j ↦ absurd (true≢false (sym j)) ];
    avoid = λ w i. elim (two w i) [ inl j ↦ subst (λ k. z k ≡ false) j c.fresh | inr j ↦ subst (λ k. z k ≡ false) j new_end ];
    by_m = λ w i. elim (two w i) [
      | inl j ↦ or_right (v == mate g m w) _ (or_left (mate g m v == mate g m w) false (eq-eqb (mate g m v) (mate g m w) (ap (mate g m) j)))
      | inr j ↦ or_left (v == mate g m w) _ (eq-eqb v (mate g m w) (sym (ap (mate g m) (sym j) ∙ mate_back g is m pm v wv)))
    ];
    by_n = λ w i o d. absurd (elim (two w i) [ inl j ↦ d (sym j) | inr j ↦ both_ways (met w) o (subst (λ k. met k ≡ true) j t) ]);
    last = or_left (m v == m (mate g m v)) false (eq-eqb (m v) (m (mate g m v)) (sym (pm.same v wv)));
  }
    where
      two : (w : ℕ) → mem (v ∷ mate g m v ∷ []) w ≡ true → (v ≡ w) ⊎ (mate g m v ≡ w)
      two w i = grind (arith, or_cases (v == w) (mem (mate g m v ∷ []) w) i, eqb-true v w, or_cases (mate g m v == w) false, eqb-true (mate g m v) w, true≢false)

      new_end : z (mate g m v) ≡ false
      new_end = false_from_ne_true (z (mate g m v)) (λ i. both_ways (z v) c.fresh (ap z (sym (mate_back g is m pm v wv)) ∙ c.closed_m (mate g m v) (mate_within g is m pm v wv) i))

  module _ (z : Set) (v : ℕ) (wv : Within g.order v) (c : IsClear g met m n z v) (o : met (mate g m v) ≡ false) where
    abbrev w : ℕ
    w = mate g m v

    abbrev next : ℕ
    next = mate g n w

    unfoldable pub passed_too : Set
    passed_too u = z u || (v == u || w == u)

    ww : Within g.order w
    ww = mate_within g is m pm v wv

    pub next_within : Within g.order next
    next_within = mate_within g is n pn w ww

    mate_fresh : z w ≡ false
    mate_fresh = false_from_ne_true (z w) (λ i. both_ways (z v) c.fresh (ap z (sym (mate_back g is m pm v wv)) ∙ c.closed_m w ww i))

    next_back : mate g n next ≡ w
    next_back = mate_back g is n pn w ww

    next_off : met next ≡ false
    next_off = out_n w ww o

    next_other : next ≢ v
    next_other i = grind (arith, cases_Bool (met v), both_ways (met v) (ap met (sym i) ∙ next_off), next_off, both_ways (z w) mate_fresh, mate_fresh, next_back)

    next_fresh : z next ≡ false
    next_fresh = grind (arith, false_from_ne_true (z next), next_within, next_off, both_ways (z w) mate_fresh, mate_fresh, next_back)

    in_passed : (u : ℕ) → passed_too u ≡ true → (z u ≡ true) ⊎ ((v ≡ u) ⊎ (w ≡ u))
    unfolding passed_too
    in_passed u h = grind (arith, or_cases (z u) (v == u || w == u) h, or_cases (v == u) (w == u), eqb-true v u, eqb-true w u)

    was_passed : (u : ℕ) → z u ≡ true → passed_too u ≡ true
    unfolding passed_too
    was_passed u h = or_left (z u) _ h

    begin_passed : (u : ℕ) → v ≡ u → passed_too u ≡ true
    unfolding passed_too
    begin_passed u h = or_right (z u) _ (or_left (v == u) (w == u) (eq-eqb v u h))

    mate_passed : (u : ℕ) → w ≡ u → passed_too u ≡ true
    unfolding passed_too
    mate_passed u h = or_right (z u) _ (or_right (v == u) (w == u) (eq-eqb w u h))

    pub next_is_clear : IsClear g met m n passed_too next
    next_is_clear = record {
      closed_m = λ u wu h. elim (in_passed u h) [
        | inl i ↦ was_passed (mate g m u) (c.closed_m u wu i)
        | inr i ↦ grind (arith, mate_passed (mate g m u), begin_passed (mate g m u), mate_back g is m pm v wv)
      ];
      fresh = false_from_ne_true (passed_too next) (λ h. elim (in_passed next h) [
        | inl i ↦ both_ways (z next) next_fresh i
        | inr i ↦ elim i [ inl j ↦ next_other (sym j) | inr j ↦ pn.other w ww (sym j) ]
      ]);
      closed_n = λ u wu h t. elim (in_passed u h) [
        | inl i ↦ elim (c.closed_n u wu i t) [ inl j ↦ inl (was_passed (mate g n u) j) | inr j ↦ inl (begin_passed (mate g n u) (sym j)) ]
        | inr i ↦ grind (arith, was_passed (mate g n u))
      ];
      back = λ t. mate_passed (mate g n next) (sym next_back);
    }

    pub fewer_left : count g.order (complement passed_too) + 1 ≤ count g.order (complement z)
    fewer_left = count_more g.order (complement passed_too) (complement z) (λ u h. ap not (false_from_ne_true (z u) (λ i. both_ways (passed_too u) (not-true (passed_too u) h) (was_passed u i)))) v wv (ap not (begin_passed v refl)) (ap not c.fresh)

    pub path_goes_on : (es : List ℕ) → LeadsAlternately g met m n passed_too next es → LeadsAlternately g met m n z v (m v ∷ n w ∷ es)
    path_goes_on es p = record {
      follow = ((pm.within v wv, pm.at v wv), ((pn.within w ww, pn.at w ww), p.follow));
      odd = grind arith;
      once = once;
      end = p.end;
      inner = λ u i d e. elim (three u i) [
        | inl j ↦ absurd (d (sym j))
        | inr j ↦ elim j [
          | inl k ↦ subst (λ k. met k ≡ false) k o
          | inr k ↦ elim (cases_eq u next) [ inl x ↦ subst (λ k. met k ≡ false) (sym x) next_off | inr x ↦ p.inner u k x e ]
        ]
      ];
      new = λ e i. elim (or_cases (m v == e) (mem (n w ∷ es) e) i) [
        | inl j ↦ inl (sym (eqb-true (m v) e j))
        | inr j ↦ elim (or_cases (n w == e) (mem es e) j) [
          | inl k ↦ inr (w, subst (λ d. (first_end g d == w || second_end g d == w) ≡ true) (eqb-true (n w) e k) (pn.at w ww), o)
          | inr k ↦ elim (p.new e k) [
            | inl x ↦ inr (next, subst (λ d. (first_end g d == next || second_end g d == next) ≡ true) (sym x) (pm.at next next_within), next_off)
            | inr x ↦ inr x
          ]
        ]
      ];
      avoid = λ u i. elim (three u i) [
        | inl j ↦ subst (λ k. z k ≡ false) j c.fresh
        | inr j ↦ elim j [
          | inl k ↦ subst (λ k. z k ≡ false) k mate_fresh
          | inr k ↦ false_from_ne_true (z u) (λ t. both_ways (passed_too u) (p.avoid u k) (was_passed u t))
        ]
      ];
      by_m = λ u i. elim (three u i) [
        | inl j ↦ or_right (v == mate g m u) _ (or_left (w == mate g m u) _ (eq-eqb w (mate g m u) (ap (mate g m) j)))
        | inr j ↦ grind (arith, or_left (v == mate g m u), eq-eqb v (mate g m u), mate_back g is m pm v wv, or_right (v == mate g m u), or_right (w == mate g m u))
      ];
      by_n = λ u i t d. elim (three u i) [
        | inl j ↦ absurd (d (sym j))
        | inr j ↦ grind (arith, or_right (v == mate g n u), or_right (w == mate g n u), start_mem g next es, cases_eq u next, or_left (w == mate g n u), eq-eqb w (mate g n u), next_back)
      ];
      last = or_right (m v == m (last_vertex g next es)) _ (or_right (n w == m (last_vertex g next es)) _ p.last);
    }
      where
        three : (u : ℕ) → mem (v ∷ w ∷ trail g next es) u ≡ true → (v ≡ u) ⊎ ((w ≡ u) ⊎ (mem (trail g next es) u ≡ true))
        three u i = grind (arith, or_cases (v == u) (mem (w ∷ trail g next es) u) i, eqb-true v u, or_cases (w == u) (mem (trail g next es) u), eqb-true w u)

        off : (u : ℕ) → passed_too u ≡ true → times (trail g next es) u ≡ 0
        off u h = elim (cases_eq (times (trail g next es) u) 0) [
          | inl i ↦ i
          | inr i ↦ absurd (both_ways (passed_too u) (p.avoid u (times_mem (trail g next es) u (omega arith))) h)
        ]

        once : (u : ℕ) → bit (v == u) + (bit (w == u) + times (trail g next es) u) ≤ 1
        once u = elim (cases_eq v u) [
          | inl j ↦ let x = ap bit (ne_eqb w u (λ k. pm.other v wv (k ∙ sym j))) in let y = ap bit (eq-eqb v u j) in let q = off u (begin_passed u j) in omega arith
          | inr j ↦ let y = ap bit (ne_eqb v u j) in (elim (cases_eq w u) [
            | inl k ↦ let x = ap bit (eq-eqb w u k) in let q = off u (mate_passed u k) in omega arith
            | inr k ↦ let x = ap bit (ne_eqb w u k) in let q = p.once u in omega arith
          ])
        ]
