-- The graph of a stage with its vertices numbered by rank; edges keep their numbers, and those
-- off the stage are loops. It is matching covered, and its perfect matchings are those of the
-- stage. So the two-ear theorem holds for pairs of vertices of a stage.
use Rattle.graph_core.proofs.from_counting.Common.{◌≡◌, ℕ, suc, zero, ◌+◌, ◌-◌, ◌≤◌, ◌≢◌, Bool, true, false, cond, ◌==◌, refl, sym, ap, ap₂, ◌∙◌, arith, ◌&&◌, not, eq-eqb, ne_eqb, inl, inr, subst, [], ◌∷◌, ◌++◌, List, length, slice_index_or, get_or-append-add, true_from_ne_false, cases_eq, cases_Bool, cases_order, and_parts, true≢false, length-append, get_or_append_left, count_congr, count_up, rank_once, member_ranked, some_true, at_le_total, two_le_total, Within, bit, count, Set, none, union, IsIn}
use Rattle.two_ears.proofs.from_barrier_kit.Common.{loop_free}
use Rattle.ear_core.proofs.EngineGraphs.{ends-met}
use Rattle.ear_core.proofs.TraceEdges.{degree_le, unmet}
use Rattle.ear_core.proofs.NextStages.{met-within}
use Rattle.ear_core.specs.Common.{IsPerfectOff, IsStage, adjacent_by, is_met}
use Rattle.graph_core.proofs.Common.{ends_le_degree, ends_of, adjacent_from, has_ends-back, has_ends-cases, has_ends-own, IsCovered, Graph, IsGraph, degree, first_end, has_ends, second_end, size, IsPerfect, Joined, Walk}
use Rattle.two_ears.proofs.TwoEars.{two_ears}
use Rattle.two_ears.specs.VertexPairs.{AreDisjoint, in_pairs, pairs_at, set_of_pair}

-- the values of f at 1 to n
abbrev pub tab : ℕ → (ℕ → ℕ × ℕ) → List (ℕ × ℕ)
tab zero f = []
tab (suc n) f = tab n f ++ f (suc n) ∷ []

-- the graph of the edges f, its vertices numbered by their rank among those that f meets; the
-- edges keep their numbers, and those outside f are loops at 1
abbrev pub stage_graph : Graph → Set → Graph
stage_graph g f = record {
  order = count g.order (is_met g f);
  ends = tab (size g) (λ e. cond (f e) (count (first_end g e) (is_met g f), count (second_end g e) (is_met g f)) (1, 1));
}

-- the pairs by rank
abbrev pub ranked : Set → List (ℕ × ℕ) → List (ℕ × ℕ)
ranked t [] = []
ranked t (p ∷ ps) = (count p.0 t, count p.1 t) ∷ ranked t ps

pub rank-test : (t : Set) (u v : ℕ) → t u ≡ true → t v ≡ true → (count u t == count v t) ≡ (u == v)
rank-test t u v tu tv = grind (arith, cases_eq u v, eq-eqb (count u t) (count v t), eq-eqb u v, ne_eqb (count u t) (count v t), rank_once t u v tu tv, ne_eqb u v)

pub rank-within : (n : ℕ) (t : Set) (v : ℕ) → Within n v → t v ≡ true → Within (count n t) (count v t)
rank-within n t v w h = let a = at_le_total v (λ k. bit (t k)) v (omega arith) in let b = ap bit h in let c = count_up t v n (omega arith) in omega arith

pub tab-size : (n : ℕ) (f : ℕ → ℕ × ℕ) → length (tab n f) ≡ n
tab-size zero f = refl
tab-size (suc n) f = let l : length (tab n f ++ (f (suc n) ∷ [])) ≡ length (tab n f) + length (f (suc n) ∷ []) = length-append (tab n f) (f (suc n) ∷ []) in let i = tab-size n f in omega arith

pub tab-at : (n : ℕ) (f : ℕ → ℕ × ℕ) (e : ℕ) → Within n e → slice_index_or (tab n f) (e - 1) (0, 0) ≡ f e
tab-at zero f e w = absurd (omega arith)
tab-at (suc n) f e w =
    let l : length (tab n f) ≡ n = tab-size n f in
    elim (cases_eq e (suc n)) [
      | inl i ↦ grind (arith, slice_index_or (tab n f ++ (f (suc n) ∷ [])), get_or-append-add (tab n f) (f (suc n) ∷ []) 0 (0, 0))
      | inr d ↦ get_or_append_left (tab n f) (f (suc n) ∷ []) (0, 0) (e - 1) (omega arith) ∙ tab-at n f e (omega arith)
    ]

module _ (g : Graph) (is : IsGraph g) (f : Set) where
  abbrev t : Set
  t = is_met g f

  abbrev k : Graph
  k = stage_graph g f

  pub size-ranked : size k ≡ size g
  size-ranked = tab-size (size g) (λ e. cond (f e) (count (first_end g e) t, count (second_end g e) t) (1, 1))

  pub first_end-ranked : (e : ℕ) → Within (size g) e → f e ≡ true → first_end k e ≡ count (first_end g e) t
  first_end-ranked e w h = ap (λ q. q.0) (tab-at (size g) (λ e. cond (f e) (count (first_end g e) t, count (second_end g e) t) (1, 1)) e w ∙ ap (λ b. cond b (count (first_end g e) t, count (second_end g e) t) (1, 1)) h)

  pub second_end-ranked : (e : ℕ) → Within (size g) e → f e ≡ true → second_end k e ≡ count (second_end g e) t
  second_end-ranked e w h = ap (λ q. q.1) (tab-at (size g) (λ e. cond (f e) (count (first_end g e) t, count (second_end g e) t) (1, 1)) e w ∙ ap (λ b. cond b (count (first_end g e) t, count (second_end g e) t) (1, 1)) h)

  pub off-loop : (e : ℕ) → Within (size g) e → f e ≡ false → (first_end k e ≡ 1) × (second_end k e ≡ 1)
  off-loop e w h = grind (arith, tab-at (size g))

  -- the degree of a part of f is the same in both graphs
  degree-ranked : (m : Set) → ((e : ℕ) → Within (size g) e → m e ≡ true → f e ≡ true) → (v : ℕ) → t v ≡ true → degree k m (count v t) ≡ degree g m v
  degree-ranked m part v tv =
      ap (λ s. count s (λ e. m e && (first_end k e == count v t)) + count s (λ e. m e && (second_end k e == count v t))) size-ranked
      ∙ ap₂ ◌+◌ (count_congr (size g) _ _ (λ e w. same_and (m e) (first_end k e == count v t) (first_end g e == v) (λ h. let fe = part e w h in ap (λ q. q == count v t) (first_end-ranked e w fe) ∙ rank-test t (first_end g e) v (ends-met g f e w fe).0 tv)))
      (count_congr (size g) _ _ (λ e w. same_and (m e) (second_end k e == count v t) (second_end g e == v) (λ h. let fe = part e w h in ap (λ q. q == count v t) (second_end-ranked e w fe) ∙ rank-test t (second_end g e) v (ends-met g f e w fe).1 tv)))
    where
      same_and : (a b c : Bool) → (a ≡ true → b ≡ c) → (a && b) ≡ (a && c)
      same_and a b c h = grind arith

  module _ (r r' : Set) (same : (v : ℕ) → Within g.order v → t v ≡ true → r' (count v t) ≡ r v) where
    pub off-ranked : (m : Set) → IsPerfectOff g f r m → IsPerfect k r' m
    off-ranked m p = record {
      once = λ w ww o. let v = member_ranked g.order t w ww in
          ap (degree k m) (sym v.3) ∙ degree-ranked m p.part v.0 v.2 ∙ p.once v.0 v.1 v.2 (sym (same v.0 v.1 v.2) ∙ ap r' v.3 ∙ o);
      away = λ w ww o. let v = member_ranked g.order t w ww in
          ap (degree k m) (sym v.3) ∙ degree-ranked m p.part v.0 v.2 ∙ p.away v.0 v.1 (sym (same v.0 v.1 v.2) ∙ ap r' v.3 ∙ o);
    }

    pub ranked-off : IsGraph k → (m : Set) → IsPerfect k r' m → IsPerfectOff g f r m
    ranked-off ik m p = record {
      part = part;
      once = λ v w tv o. sym (degree-ranked m part v tv) ∙ p.once (count v t) (rank-within g.order t v w tv) (same v w tv ∙ o);
      away = λ v w o. elim (cases_Bool (t v)) [
        | inl tv ↦ sym (degree-ranked m part v tv) ∙ p.away (count v t) (rank-within g.order t v w tv) (same v w tv ∙ o)
        | inr tv ↦ let a = unmet g f v tv in let b = degree_le g m f v part in omega arith
      ];
    }
      where
        part : (e : ℕ) → Within (size g) e → m e ≡ true → f e ≡ true
        part e w h = true_from_ne_false (f e) (λ z. let l = off-loop e w z in let s = size-ranked in loop_free k r' m ik p e (omega arith) h (l.0 ∙ sym l.1))

  module _ (s : IsStage g f) where
    two : 2 ≤ count g.order t
    unfolding ends_of
    two =
        let e = s.some_edge in
        let h = ends-met g f e.0 e.1 e.2 in
        let w = is e.0 e.1 in
        let x = ap bit h.0 in
        let y = ap bit h.1 in
        elim (cases_order (first_end g e.0) (second_end g e.0)) [
          | inl i ↦ grind (arith, ends_le_degree g, eq-eqb (first_end g e.0) (first_end g e.0) refl, eq-eqb (second_end g e.0) (first_end g e.0) (sym i))
          | inr c ↦ elim c [
            | inl l ↦ let a = two_le_total g.order (λ v. bit (t v)) (first_end g e.0) (second_end g e.0) w.0 w.1 l in omega arith
            | inr l ↦ let a = two_le_total g.order (λ v. bit (t v)) (second_end g e.0) (first_end g e.0) w.1 w.0 l in omega arith
          ]
        ]

    pub ranked-graph : IsGraph k
    ranked-graph e we = grind (arith, size-ranked, size, cases_Bool, ends-met, first_end-ranked, rank-within, second_end-ranked, off-loop, two)

    walk-ranked : (a b : ℕ) (ws : List ℕ) → Walk (adjacent_by g f) a ws b → Joined k none (count a t) (count b t)
    unfolding Joined
    walk-ranked a b [] w = ([], ap (λ v. count v t) w)
    walk-ranked a b (x ∷ ws) w =
        let r = walk-ranked x b ws w.1 in
        let e = some_true (size g) (λ e. f e && has_ends g a x e) w.0 in
        let h = and_parts (f e.0) (has_ends g a x e.0) e.2 in
        let l = size-ranked in
        let we : Within (size k) e.0 = let i = e.1 in omega arith in
        let n = first_end-ranked e.0 e.1 h.0 in
        let q = second_end-ranked e.0 e.1 h.0 in
        let bt : has_ends k (count a t) (count x t) e.0 ≡ true = elim (has_ends-cases g a x e.0 h.1) [
          | inl i ↦ ap₂ (λ c d. has_ends k c d e.0) (ap (λ v. count v t) (sym i.0) ∙ sym n) (ap (λ v. count v t) (sym i.1) ∙ sym q) ∙ has_ends-own k e.0
          | inr i ↦ ap₂ (λ c d. has_ends k c d e.0) (ap (λ v. count v t) (sym i.1) ∙ sym q) (ap (λ v. count v t) (sym i.0) ∙ sym n) ∙ has_ends-back k (first_end k e.0) (second_end k e.0) e.0 (has_ends-own k e.0)
        ] in
        (count x t ∷ r.0, (adjacent_from k none (count a t) (count x t) e.0 refl refl we bt, r.1))

    -- the graph of a stage is covered
    pub ranked-covered : IsCovered k
    ranked-covered = record {
      two = two;
      connected = λ u v wu wv.
          let a = member_ranked g.order t u wu in
          let b = member_ranked g.order t v wv in
          let w = s.connected a.0 b.0 a.1 b.1 a.2 b.2 in
          subst (λ c. Joined k none c v) a.3 (subst (λ c. Joined k none (count a.0 t) c) b.3 (walk-ranked a.0 b.0 w.0 w.1));
      allowed = λ e we d.
          let l = size-ranked in
          let w : Within (size g) e = omega arith in
          elim (cases_Bool (f e)) [
            | inr h ↦ let u = off-loop e w h in absurd (d (u.0 ∙ sym u.1))
            | inl h ↦ let m = s.allowed e w h in (m.0, off-ranked none none (λ v wv tv. refl) m.0 (record { part = m.1.part; once = λ v wv tv o. m.1.once v wv tv; away = λ v wv o. absurd (true≢false (sym o)) }), m.2)
          ];
    }

    ranked-in : (ps : List (ℕ × ℕ)) (q : ℕ × ℕ) → IsIn q (ranked t ps) → (p : ℕ × ℕ) × IsIn p ps × (q ≡ (count p.0 t, count p.1 t))
    ranked-in [] q i = absurd i
    ranked-in (p ∷ ps) q i = elim i [
      | inl e ↦ (p, inl refl, e)
      | inr j ↦ let r = ranked-in ps q j in (r.0, inr r.1, r.2)
    ]

    ranked-ends : (ps : List (ℕ × ℕ)) → ((p : ℕ × ℕ) → IsIn p ps → (t p.0 ≡ true) × (t p.1 ≡ true)) → (v : ℕ) → t v ≡ true → pairs_at (ranked t ps) (count v t) ≡ pairs_at ps v
    ranked-ends [] h v tv = refl
    ranked-ends (p ∷ ps) h v tv =
        let a = ap bit (rank-test t p.0 v (h p (inl refl)).0 tv) in
        let b = ap bit (rank-test t p.1 v (h p (inl refl)).1 tv) in
        let c = ranked-ends ps (λ q i. h q (inr i)) v tv in omega arith

    same-pairs : (a b p q : ℕ × ℕ) → p ≡ (count a.0 t, count a.1 t) → q ≡ (count b.0 t, count b.1 t) → (t a.0 ≡ true) × (t a.1 ≡ true) → (t b.0 ≡ true) × (t b.1 ≡ true) → (v : ℕ) → t v ≡ true →
        union (set_of_pair p) (set_of_pair q) (count v t) ≡ union (set_of_pair a) (set_of_pair b) v
    same-pairs a b p q e d ha hb v tv = grind (arith, rank-test t a.0 v ha.0 tv, rank-test t a.1 v ha.1 tv, rank-test t b.0 v hb.0 tv, rank-test t b.1 v hb.1 tv)

    -- of pairs of vertices of a stage that serve together two serve, or one
    pub pairs-serve : (ps : List (ℕ × ℕ)) → ps ≢ [] → ((p : ℕ × ℕ) → IsIn p ps → (t p.0 ≡ true) × (t p.1 ≡ true)) → ((v : ℕ) → Within g.order v → pairs_at ps v ≤ 1) → (m : Set) → IsPerfectOff g f (in_pairs ps) m →
        (p : ℕ × ℕ) × (q : ℕ × ℕ) × IsIn p ps × IsIn q ps × ((n : Set) × IsPerfectOff g f (union (set_of_pair p) (set_of_pair q)) n)
    pairs-serve ps filled_ps h once m p =
        let dis : AreDisjoint k.order (ranked t ps) = record {
          within = λ q i. let r = ranked-in ps q i in
              let u = h r.0 r.1 in
              (subst (Within k.order) (sym (ap (λ z. z.0) r.2)) (rank-within g.order t r.0.0 (met-within g is f r.0.0 u.0) u.0), subst (Within k.order) (sym (ap (λ z. z.1) r.2)) (rank-within g.order t r.0.1 (met-within g is f r.0.1 u.1) u.1));
          once = λ w ww. let v = member_ranked g.order t w ww in let a = ranked-ends ps h v.0 v.2 in let b = once v.0 v.1 in let c = ap (pairs_at (ranked t ps)) v.3 in omega arith;
        } in
        let x = two_ears k ranked-graph ranked-covered (ranked t ps) (filled ps filled_ps) dis (m, off-ranked (in_pairs ps) (in_pairs (ranked t ps)) (λ v w tv. ap (λ n. not (n == 0)) (ranked-ends ps h v tv)) m p) in
        let a = ranked-in ps x.0 x.2 in
        let b = ranked-in ps x.1 x.3 in (
          a.0,
          b.0,
          a.1,
          b.1,
          (
            x.4.0,
            ranked-off (union (set_of_pair a.0) (set_of_pair b.0)) (union (set_of_pair x.0) (set_of_pair x.1))
                (λ v w tv. same-pairs a.0 b.0 x.0 x.1 a.2 b.2 (h a.0 a.1) (h b.0 b.1) v tv) ranked-graph x.4.0 x.4.1,
          ),
        )
      where
        filled : (ps : List (ℕ × ℕ)) → ps ≢ [] → ranked t ps ≢ []
        filled [] d = λ e. d refl
        filled (p ∷ ps) d = λ e. absurd (grind arith)
