-- A pocket (m, a, d) of a bicritical graph, with one vertex for all that is outside m and a. This
-- contraction is bicritical: its vertices come from those of m, a and d, and a perfect matching of
-- the graph without two of these has as many edges in the cut as the new vertex needs, by parity.
-- Used by: SmallerPockets.
use Rattle.tree_check.proofs.from_counting.Common.{◌≡◌, ℕ, suc, ◌+◌, ◌*◌, ◌≤◌, ◌≢◌, Bool, true, false, ◌==◌, ◌&&◌, ◌||◌, not, refl, sym, ap, ap₂, ◌∙◌, arith, eq-eqb, eqb-true, ne_eqb, inl, inr, cases_Bool, cases_eq, or_cases, or_comm, both_ways, false_from_ne_true, not-true, true_from_ne_false, or_left, or_right, zero, odd-double, count_congr, count_minus, total_congr, total_add, Within, bit, count, is_odd, Set, pair_set, union, minus, complement, singleton}
use Rattle.barrier_kit.proofs.Common.{even_order, inner, perfect_congr, two_less}
use Rattle.graph_core.proofs.Common.{covered_perfect, drop_inside, degrees, IsCovered, Graph, IsGraph, IsPerfect, HasPerfect, IsTight, IsBicritical, Merges, degree, edges_in_cut, first_end, inside, second_end, size}
use Rattle.theorems.proofs.EvenPockets.{pocket_few, pocket_tight}
use Rattle.theorems.proofs.Pockets.{Pocket}

module _ (g : Graph) (is : IsGraph g) (cov : IsCovered g) (bi : IsBicritical g) (m : Set) (a d : ℕ) (p : Pocket g m a d) where
  abbrev pub w : Set
  w = union m (singleton a)

  pub w_d : w d ≡ false
  w_d = rw (p.second_out, ne_eqb a d p.different) refl

  pub even_g : is_odd g.order ≡ false
  even_g = let k = covered_perfect g is cov in even_order g k.0 is k.1

  pub w_tight : IsTight g w
  w_tight = pocket_tight g m a d p is even_g

  module _ (h : Graph) (f : ℕ → ℕ) (c : ℕ) (ish : IsGraph h) (merge : Merges g (complement w) h f c) where
    in_g : (e : ℕ) → Within (size h) e → Within (size g) e
    in_g e we = let k = merge.edges in omega arith

    pub f_out : (v : ℕ) → Within g.order v → w v ≡ false → f v ≡ c
    f_out v wv o = merge.inside v wv (ap not o)

    pub f_in : (v : ℕ) → Within g.order v → w v ≡ true → Within h.order (f v) × (f v ≢ c)
    f_in v wv o = merge.outside v wv (ap not o)

    -- a vertex of h as one of m, a and d
    pub record Lift (t : ℕ) : Type 0 where
      pub vertex : ℕ
      pub within : Within g.order vertex
      pub maps : f vertex ≡ t
      pub kept : w vertex ≡ false → vertex ≡ d

    pub lift : (t : ℕ) → Within h.order t → Lift t
    lift t wt = elim (cases_eq t c) [
      | inl e ↦ record { vertex = d; within = p.second; maps = f_out d p.second w_d ∙ sym e; kept = λ o. refl }
      | inr n ↦ let r = merge.onto t wt n in record { vertex = r.0; within = r.1; maps = r.3; kept = λ o. absurd (both_ways (complement w r.0) r.2 (ap not o)) }
    ]

    -- f is one to one on m, a and d
    pub once_only : (u v : ℕ) → Within g.order u → Within g.order v → (w u ≡ false → u ≡ d) → (w v ≡ false → v ≡ d) → f u ≡ f v → u ≡ v
    once_only u v wu wv ku kv e = go (w u) (w v) refl refl
      where
        go : (x y : Bool) → w u ≡ x → w v ≡ y → u ≡ v
        go true true i j = merge.apart u v wu wv (ap not i) (ap not j) e
        go true false i j = absurd ((f_in u wu i).1 (e ∙ f_out v wv j))
        go false true i j = absurd ((f_in v wv j).1 (sym e ∙ f_out u wu i))
        go false false i j = ku i ∙ sym (kv j)

    -- degrees in h
    same_end : (u v : ℕ) → Within g.order u → Within g.order v → w v ≡ true → (f u == f v) ≡ (u == v)
    same_end u v wu wv o = go (w u) refl
      where
        go : (x : Bool) → w u ≡ x → (f u == f v) ≡ (u == v)
        go true i = elim (cases_eq u v) [
          | inl e ↦ eq-eqb (f u) (f v) (ap f e) ∙ sym (eq-eqb u v e)
          | inr n ↦ ne_eqb (f u) (f v) (λ e. n (merge.apart u v wu wv (ap not i) (ap not o) e)) ∙ sym (ne_eqb u v n)
        ]
        go false i = ne_eqb (f u) (f v) (λ e. (f_in v wv o).1 (sym e ∙ f_out u wu i)) ∙ sym (ne_eqb u v (λ e. both_ways (w u) i (ap w e ∙ o)))

    at_c : (u : ℕ) → Within g.order u → (f u == c) ≡ complement w u
    at_c u wu = go (w u) refl
      where
        go : (x : Bool) → w u ≡ x → (f u == c) ≡ not (w u)
        go true i = ne_eqb (f u) c (f_in u wu i).1 ∙ sym (ap not i)
        go false i = eq-eqb (f u) c (f_out u wu i) ∙ sym (ap not i)

    -- the edges of n that are not outside w
    abbrev down : Set → Set
    down n = drop_inside g is (complement w) h f c merge n

    over : (s t : ℕ → Bool) → ((e : ℕ) → Within (size g) e → s e ≡ t e) → count (size h) s ≡ count (size g) t
    over s t k = ap (λ n. count n s) merge.edges ∙ count_congr (size g) s t k

    degree_in : (n : Set) (v : ℕ) → Within g.order v → w v ≡ true → degree h (down n) (f v) ≡ degree g n v
    degree_in n v wv o = ap₂ ◌+◌
        (over _ _ (λ e we. ap (λ k. down n e && k) (ap (λ k. k == f v) (merge.first_ends e we) ∙ same_end (first_end g e) v (is e we).0 wv o) ∙ near (n e) (first_end g e == v) (w (first_end g e)) (w (second_end g e)) (λ t. ap w (eqb-true (first_end g e) v t) ∙ o)))
        (over _ _ (λ e we. ap (λ k. down n e && k) (ap (λ k. k == f v) (merge.second_ends e we) ∙ same_end (second_end g e) v (is e we).1 wv o) ∙ far (n e) (second_end g e == v) (w (first_end g e)) (w (second_end g e)) (λ t. ap w (eqb-true (second_end g e) v t) ∙ o)))
      where
        near : (k t x y : Bool) → (t ≡ true → x ≡ true) → ((k && not (not x && not y)) && t) ≡ (k && t)
        near k t x y q = grind arith

        far : (k t x y : Bool) → (t ≡ true → y ≡ true) → ((k && not (not x && not y)) && t) ≡ (k && t)
        far k t x y q = grind arith

    degree_c : (n : Set) → degree h (down n) c ≡ edges_in_cut g n w
    degree_c n = ap₂ ◌+◌
        (over _ (λ e. (n e && not (inside g (complement w) e)) && complement w (first_end g e)) (λ e we. ap (λ k. down n e && k) (ap (λ k. k == c) (merge.first_ends e we) ∙ at_c (first_end g e) (is e we).0)))
        (over _ (λ e. (n e && not (inside g (complement w) e)) && complement w (second_end g e)) (λ e we. ap (λ k. down n e && k) (ap (λ k. k == c) (merge.second_ends e we) ∙ at_c (second_end g e) (is e we).1)))
        ∙ sym (total_add (size g) (λ e. bit ((n e && not (inside g (complement w) e)) && complement w (first_end g e))) (λ e. bit ((n e && not (inside g (complement w) e)) && complement w (second_end g e))))
        ∙ total_congr (size g) _ _ (λ e we. bits (n e) (w (first_end g e)) (w (second_end g e)))
      where
        bits : (k x y : Bool) → bit ((k && not (not x && not y)) && not x) + bit ((k && not (not x && not y)) && not y) ≡ bit (k && ((x && not y) || (not x && y)))
        bits k x y = grind arith

    pub in_w : (u : ℕ) (r : Lift u) → u ≢ c → w r.vertex ≡ true
    in_w u r n = true_from_ne_false (w r.vertex) (λ o. n (sym r.maps ∙ f_out r.vertex r.within o))

    pub lift_c : (u : ℕ) (r : Lift u) → u ≡ c → r.vertex ≡ d
    lift_c u r e = r.kept (false_from_ne_true (w r.vertex) (λ o. (f_in r.vertex r.within o).1 (r.maps ∙ e)))

    -- two vertices of h, and the two vertices of g from which they come
    module _ (s t : ℕ) (ls : Lift s) (lt : Lift t) (st : s ≢ t) where
      abbrev pair : Set
      pair = pair_set ls.vertex lt.vertex

      pub lift_apart : ls.vertex ≢ lt.vertex
      lift_apart e = st (sym ls.maps ∙ ap f e ∙ lt.maps)

      pub own_s : pair ls.vertex ≡ true
      own_s = or_left (ls.vertex == ls.vertex) (lt.vertex == ls.vertex) (eq-eqb ls.vertex ls.vertex refl)

      pub own_t : pair lt.vertex ≡ true
      own_t = or_right (ls.vertex == lt.vertex) (lt.vertex == lt.vertex) (eq-eqb lt.vertex lt.vertex refl)

      -- what f carries outside the pair is outside
      pub off_up : (v : ℕ) → pair_set s t (f v) ≡ false → pair v ≡ false
      off_up v o = false_from_ne_true (pair v) (λ k. both_ways (pair_set s t (f v)) o (elim (or_cases (ls.vertex == v) (lt.vertex == v) k) [
        | inl i ↦ or_left (s == f v) (t == f v) (eq-eqb s (f v) (sym ls.maps ∙ ap f (eqb-true ls.vertex v i)))
        | inr i ↦ or_right (s == f v) (t == f v) (eq-eqb t (f v) (sym lt.maps ∙ ap f (eqb-true lt.vertex v i)))
      ]))

      pub off_down : (v : ℕ) → Within g.order v → (w v ≡ false → v ≡ d) → pair v ≡ false → pair_set s t (f v) ≡ false
      off_down v wv k o = false_from_ne_true (pair_set s t (f v)) (λ h. both_ways (pair v) o (elim (or_cases (s == f v) (t == f v) h) [
        | inl i ↦ or_left (ls.vertex == v) (lt.vertex == v) (eq-eqb ls.vertex v (once_only ls.vertex v ls.within wv ls.kept k (ls.maps ∙ eqb-true s (f v) i)))
        | inr i ↦ or_right (ls.vertex == v) (lt.vertex == v) (eq-eqb lt.vertex v (once_only lt.vertex v lt.within wv lt.kept k (lt.maps ∙ eqb-true t (f v) i)))
      ]))

      -- a perfect matching of g without the two goes down, if it meets the cut where c is to be met
      pair_down : (n : Set) → IsPerfect g pair n → edges_in_cut g n w ≡ bit (not (pair_set s t c)) → IsPerfect h (pair_set s t) (down n)
      pair_down n k met = record {
        once = λ u wu o. elim (cases_eq u c) [
          | inl e ↦ ap (degree h (down n)) e ∙ degree_c n ∙ met ∙ ap (λ b. bit (not b)) (ap (pair_set s t) (sym e) ∙ o)
          | inr e ↦ let r = lift u wu in ap (degree h (down n)) (sym r.maps) ∙ degree_in n r.vertex r.within (in_w u r e) ∙ k.once r.vertex r.within (off_up r.vertex (ap (pair_set s t) r.maps ∙ o))
        ];
        away = λ u wu o. elim (cases_eq u c) [
          | inl e ↦ ap (degree h (down n)) e ∙ degree_c n ∙ met ∙ ap (λ b. bit (not b)) (ap (pair_set s t) (sym e) ∙ o)
          | inr e ↦ elim (or_cases (s == u) (t == u) o) [
            | inl i ↦ let q = eqb-true s u i in ap (degree h (down n)) (sym (ls.maps ∙ q)) ∙ degree_in n ls.vertex ls.within (in_w s ls (λ x. e (sym q ∙ x))) ∙ k.away ls.vertex ls.within own_s
            | inr i ↦ let q = eqb-true t u i in ap (degree h (down n)) (sym (lt.maps ∙ q)) ∙ degree_in n lt.vertex lt.within (in_w t lt (λ x. e (sym q ∙ x))) ∙ k.away lt.vertex lt.within own_t
          ]
        ];
      }

      at_most : (n : Set) → IsPerfect g pair n → (v : ℕ) → Within g.order v → degree g n v ≤ 1
      at_most n k v wv = elim (cases_Bool (pair v)) [
        | inl i ↦ let z = k.away v wv i in omega arith
        | inr o ↦ let z = k.once v wv o in omega arith
      ]

      left_over : (n : Set) → IsPerfect g pair n → count g.order (minus w pair) ≡ edges_in_cut g n w + 2 * inner g n w
      left_over n k = total_congr g.order _ _ (λ v wv. each v wv (pair v) refl) ∙ degrees g is n w
        where
          each : (v : ℕ) → Within g.order v → (b : Bool) → pair v ≡ b → bit (w v && not (pair v)) ≡ bit (w v) * degree g n v
          each v wv true i = let z = k.away v wv i in rw (i, z) (none_left (w v))
            where
              none_left : (b : Bool) → bit (b && false) ≡ bit b * 0
              none_left b = grind arith
          each v wv false o = let z = k.once v wv o in rw (o, z) (one_left (w v))
            where
              one_left : (b : Bool) → bit (b && true) ≡ bit b * 1
              one_left b = grind arith

      w_odd : is_odd (count g.order w) ≡ true
      w_odd = let t = w_tight in t.odd

      -- the second is not c
      met_once : t ≢ c → (n : Set) → IsPerfect g pair n → edges_in_cut g n w ≡ bit (not (pair_set s t c))
      met_once tc n k =
          let few = pocket_few g m a d p n in
          let i = at_most n k a p.first in
          let j = at_most n k d p.second in
          let l = left_over n k in
          elim (cases_eq s c) [
            | inl e ↦
                let at_d = lift_c s ls e in
                let z = k.away d p.second (ap pair (sym at_d) ∙ own_s) in
                let same : count g.order (minus w pair) ≡ count g.order (minus w (singleton lt.vertex)) = count_congr g.order _ _ (λ v wv. alike (w v) (ls.vertex == v) (lt.vertex == v) (λ q. ap w (sym (eqb-true ls.vertex v q) ∙ at_d) ∙ w_d)) in
                let x = count_minus g.order w lt.vertex lt.within (in_w t lt tc) in
                let y : count g.order w ≡ suc (count g.order (minus w pair)) = omega arith in
                settle_none (edges_in_cut g n w) (inner g n w) (count g.order (minus w pair)) l (not-true (is_odd (count g.order (minus w pair))) (sym (ap is_odd y) ∙ w_odd)) (omega arith) ∙ rw (eq-eqb s c e) refl
            | inr e ↦
                let x = two_less g.order w ls.vertex lt.vertex ls.within lt.within lift_apart (in_w s ls e) (in_w t lt tc) in
                let y : count g.order w ≡ suc (suc (count g.order (minus w pair))) = omega arith in
                settle_one (edges_in_cut g n w) (inner g n w) (count g.order (minus w pair)) l (twice (is_odd (count g.order (minus w pair))) (is_odd (count g.order w)) (ap is_odd y) w_odd) (omega arith) ∙ rw (ne_eqb s c e, ne_eqb t c tc) refl
          ]
        where
          alike : (x y z : Bool) → (y ≡ true → x ≡ false) → (x && not (y || z)) ≡ (x && not z)
          alike x y z h = grind arith

          twice : (b c : Bool) → c ≡ not (not b) → c ≡ true → b ≡ true
          twice b c e h = grind arith

          settle_none : (c k x : ℕ) → x ≡ c + 2 * k → is_odd x ≡ false → c ≤ 1 → c ≡ 0
          settle_none zero k x e o h = refl
          settle_none (suc zero) k x e o h = let q : x ≡ suc (k + k) = omega arith in absurd (both_ways (is_odd x) o (ap is_odd q ∙ ap not (odd-double k)))
          settle_none (suc (suc c)) k x e o h = absurd (omega arith)

          settle_one : (c k x : ℕ) → x ≡ c + 2 * k → is_odd x ≡ true → c ≤ 2 → c ≡ 1
          settle_one c k x e o h = grind (arith, both_ways (is_odd x), odd-double k, odd-double (k + 1))

    -- the contraction is bicritical
    half_bicritical : (s t : ℕ) → Within h.order s → Within h.order t → s ≢ t → t ≢ c → HasPerfect h (pair_set s t)
    half_bicritical s t ws wt st tc =
        let ls = lift s ws in
        let lt = lift t wt in
        let n = bi ls.vertex lt.vertex ls.within lt.within (lift_apart s t ls lt st) in
        (down n.0, pair_down s t ls lt st n.0 n.1 (met_once s t ls lt st tc n.0 n.1))

    pub contracted_bicritical : IsBicritical h
    contracted_bicritical s t ws wt st = elim (cases_eq t c) [
      | inr n ↦ half_bicritical s t ws wt st n
      | inl e ↦ let r = half_bicritical t s wt ws (λ q. st (sym q)) (λ q. st (q ∙ sym e)) in (r.0, perfect_congr h (pair_set t s) (pair_set s t) r.0 (λ v wv. or_comm (t == v) (s == v)) r.1)
    ]
