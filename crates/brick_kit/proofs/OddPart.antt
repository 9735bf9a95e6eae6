-- If each vertex of a part is missed by some heaviest matching, the part is odd, and a best
-- matching misses just one vertex of it. By induction on a walk between two vertices that a best
-- matching would miss: the exchange makes another one miss a vertex of the walk. So the part
-- becomes a set of a cover of the lowered weights, and makes it a cover of the weights.
use Rattle.graph_core.proofs.from_counting.Common.{◌≡◌, ◌≢◌, ℕ, suc, ◌+◌, ◌*◌, ◌/◌, ◌≤◌, ◌<◌, Bool, true, false, cond, ◌==◌, ◌&&◌, not, ◌⊎◌, nat_lt, List, [], ◌∷◌, sym, ap, ◌∙◌, arith, inl, inr, eqb-true, eq-eqb, subst, and_from, and_parts, cases_eq, All-cons, count_le_one, member_count, odd-double, Within, bit, count, is_odd, total, Set}
use Rattle.graph_core.proofs.Common.{Graph, HasEnds, IsGraph, degree, in_cut, inside, size, Walk}
use Rattle.brick_kit.proofs.BestMatchings.{HasWeight, IsBest, best_exists, best_has_all, best_swapped}
use Rattle.brick_kit.proofs.CoverBound.{Dual, cover_bound}
use Rattle.brick_kit.proofs.CutEnds.{ends_inside, same_side}
use Rattle.brick_kit.proofs.HeaviestMatchings.{heavy_heaviest, heavy_holds, heavy_part, smaller_degree}
use Rattle.brick_kit.proofs.HeavyParts.{heavy, heavy_edge, heavy_within}
use Rattle.brick_kit.proofs.LoweredWeights.{lowered, lowered_back, lowered_weight}
use Rattle.brick_kit.proofs.SwapSets.{held, swap_set}
use Rattle.brick_kit.proofs.Swaps.{missed_inside, not_both, swapped, swapped_degree}
use Rattle.brick_kit.specs.Weights.{IsHeaviest, sum_over, weight_of}

-- were no vertex of k missed by m, the matching n that misses one would have to be lighter
meets_numbers : (wm wn lm ln im jn k x y : ℕ) → wm ≡ lm + im → wn ≡ ln + jn → wm ≤ wn → ln ≤ lm → k ≡ x + 2 * im → k ≡ y + 2 * jn → 1 ≤ y → 1 ≤ x
meets_numbers wm wn lm ln im jn k x y a b c d e f h = omega arith

module _ (g : Graph) (is : IsGraph g) (w : ℕ → ℕ) (k : Set) (closed : (e : ℕ) → Within (size g) e → 0 < w e → in_cut g k e ≡ false)
    (missed : (v : ℕ) → Within g.order v → k v ≡ true → (n : Set) × IsHeaviest g w n × (degree g n v ≡ 0)) where
  -- the heaviest matching that misses v may have only edges of weight
  missed_heavily : (v : ℕ) → Within g.order v → k v ≡ true → (n : Set) × IsHeaviest g w n × HasWeight g w n × (degree g n v ≡ 0)
  missed_heavily v wv kv = let x = missed v wv kv in (
    heavy_part w x.0,
    heavy_heaviest g w w x.0 (λ e h. h) x.1,
    λ e i h. (heavy_holds w x.0 e h).1,
    nothing (degree g (heavy_part w x.0) v) (degree g x.0 v) (smaller_degree g x.0 (heavy_part w x.0) v (λ e h. (heavy_holds w x.0 e h).0)) x.2,
  )
    where
      nothing : (c d : ℕ) → c ≤ d → d ≡ 0 → c ≡ 0
      nothing c d h i = omega arith

  -- another best matching misses t, and still u or v
  pub best_moves : (m : Set) → IsBest g w k m → (u v t : ℕ) → Within g.order u → Within g.order v → Within g.order t → k t ≡ true → u ≢ v → degree g m u ≡ 0 → degree g m v ≡ 0 →
      (l : Set) × IsBest g w k l × (degree g l t ≡ 0) × ((degree g l u ≡ 0) ⊎ (degree g l v ≡ 0))
  best_moves m b u v t wu wv wt kt d mu mv =
      let x = missed_heavily t wt kt in
      let s = swap_set g k m x.0 t is (λ e i h. closed e i (b.heavy e i h)) (λ e i h. closed e i (x.2 e i h)) wt kt in
      let at : (z : ℕ) → degree g (swapped g s.0 m x.0) z ≡ cond (s.0 z) (degree g x.0 z) (degree g m z) = λ z. swapped_degree g s.0 m x.0 z s.1.first_stays s.1.second_stays in (
        swapped g s.0 m x.0,
        best_swapped g w k m x.0 t s.0 is b x.1 x.2 wt x.3 s.1,
        at t ∙ ap (λ b. cond b (degree g x.0 t) (degree g m t)) s.1.holds ∙ x.3,
        elim (not_both g k m x.0 t s.0 is b.is x.1.is wt x.3 s.1 u v wu wv d mu mv) [
          | inl f ↦ inl (at u ∙ ap (λ b. cond b (degree g x.0 u) (degree g m u)) f ∙ mu)
          | inr f ↦ inr (at v ∙ ap (λ b. cond b (degree g x.0 v) (degree g m v)) f ∙ mv)
        ],
      )

  -- the other end of an edge with weight is in k, and so the edge is inside
  next_in : (e u v : ℕ) → Within (size g) e → 0 < w e → HasEnds g e u v → k u ≡ true → (k v ≡ true) × (inside g k e ≡ true)
  next_in e u v we wp ends ku = let kv = sym (same_side g k e u v ends (closed e we wp)) ∙ ku in (kv, ends_inside g k e u v ends ∙ and_from (k u) (k v) ku kv)

  -- no best matching misses both ends of an edge with weight
  not_adjacent : (m : Set) → IsBest g w k m → (u v : ℕ) → k u ≡ true → heavy g w u v ≡ true → u ≢ v → degree g m u ≡ 0 → degree g m v ≡ 0 → ⊥
  not_adjacent m b u v ku h d mu mv = let r = heavy_edge g w u v h in best_has_all g w k m r.0 u v b r.1 r.3 (next_in r.0 u v r.1 r.3 r.2 ku).1 r.2 d mu mv

  pub no_two : (ws : List ℕ) (m : Set) → IsBest g w k m → (u v : ℕ) → Within g.order u → Within g.order v → k u ≡ true → Walk (heavy g w) u ws v → u ≢ v → degree g m u ≡ 0 → degree g m v ≡ 0 → ⊥
  no_two [] m b u v wu wv ku walk d mu mv = d walk
  no_two (t ∷ ws) m b u v wu wv ku walk d mu mv = elim (cases_eq t v) [
    | inl q ↦ not_adjacent m b u v ku (subst (λ z. heavy g w u z ≡ true) q walk.0) d mu mv
    | inr tv ↦ elim (cases_eq t u) [
      | inl q ↦ no_two ws m b u v wu wv ku (subst (λ z. Walk (heavy g w) z ws v) q walk.1) d mu mv
      | inr tu ↦
          let r = heavy_edge g w u t walk.0 in
          let wt = (heavy_within g w is u t walk.0).1 in
          let kt = (next_in r.0 u t r.1 r.3 r.2 ku).0 in
          let l = best_moves m b u v t wu wv wt kt d mu mv in
          elim l.3 [
            | inl lu ↦ not_adjacent l.0 l.1 u t ku walk.0 (λ q. tu (sym q)) lu l.2
            | inr lv ↦ no_two ws l.0 l.1 t v wt wv kt walk.1 tv l.2 lv
          ]
    ]
  ]

  module _ (walks : (u v : ℕ) → Within g.order u → Within g.order v → k u ≡ true → k v ≡ true → (ws : List ℕ) × Walk (heavy g w) u ws v) (a : ℕ) (wa : Within g.order a) (ka : k a ≡ true) where
    at_most_one : (m : Set) → IsBest g w k m → count g.order (λ v. k v && (degree g m v == 0)) ≤ 1
    at_most_one m b = grind (arith, count_le_one g.order, and_parts, no_two, eqb-true)

    stays : (m : Set) → IsBest g w k m → (e : ℕ) → Within (size g) e → m e ≡ true → in_cut g k e ≡ false
    stays m b e i h = closed e i (b.heavy e i h)

    at_least_one : (m : Set) → IsBest g w k m → 1 ≤ count g.order (λ v. k v && (degree g m v == 0))
    at_least_one m b = let x = missed_heavily a wa ka in
        meets_numbers (weight_of g w m) (weight_of g w x.0) (weight_of g (lowered w (inside g k)) m) (weight_of g (lowered w (inside g k)) x.0) (held g m k) (held g x.0 k) (count g.order k)
        (count g.order (λ v. k v && (degree g m v == 0))) (count g.order (λ v. k v && (degree g x.0 v == 0)))
        (lowered_weight g w (inside g k) m b.heavy) (lowered_weight g w (inside g k) x.0 x.2) (x.1.most m b.is) (b.low x.0 x.1.is)
        (missed_inside g m k is b.is (stays m b)) (missed_inside g x.0 k is x.1.is (λ e i h. closed e i (x.2 e i h)))
        (member_count g.order (λ v. k v && (degree g x.0 v == 0)) a wa (and_from (k a) (degree g x.0 a == 0) ka (eq-eqb (degree g x.0 a) 0 x.3)))

    pub misses_one : (m : Set) → IsBest g w k m → count g.order (λ v. k v && (degree g m v == 0)) ≡ 1
    misses_one m b = let p = at_most_one m b in let q = at_least_one m b in omega arith

    pub odd_part : (m : Set) → IsBest g w k m → (is_odd (count g.order k) ≡ true) × (held g m k ≡ count g.order k / 2)
    odd_part m b = (ap is_odd all ∙ ap not (odd-double (held g m k)), half (count g.order k) (held g m k) all)
      where
        odd_number : (n x i : ℕ) → n ≡ x + 2 * i → x ≡ 1 → n ≡ suc (i + i)
        odd_number n x i h j = omega arith

        all : count g.order k ≡ suc (held g m k + held g m k)
        all = odd_number (count g.order k) (count g.order (λ v. k v && (degree g m v == 0))) (held g m k) (missed_inside g m k is b.is (stays m b)) (misses_one m b)

        half : (n i : ℕ) → n ≡ suc (i + i) → i ≡ n / 2
        half n i h = omega arith

    -- the part joins the sets of a cover of the lowered weights
    pub part_dual : Dual g (lowered w (inside g k)) → Dual g w
    part_dual d = record {
      m = best.0;
      y = d.y;
      us = k ∷ d.us;
      is = best.1.is;
      cover = record {
        odd = All-cons (λ x. is_odd (count g.order x) ≡ true) k d.us odd.0 d.cover.odd;
        enough = λ e i. enough (w e) (lowered w (inside g k) e) (inside g k e) (nat_lt 0 (w e)) _ _ (lowered_back w (inside g k) e) (d.cover.enough e i);
      };
      equal = equal (weight_of g w best.0) (weight_of g (lowered w (inside g k)) best.0) (held g best.0 k) (weight_of g (lowered w (inside g k)) d.m) (total g.order d.y) (sum_over (λ x. count g.order x / 2) d.us) (count g.order k / 2)
          (lowered_weight g w (inside g k) best.0 best.1.heavy) odd.1 (best.1.low d.m d.is) d.equal (cover_bound g (lowered w (inside g k)) d.y d.us best.0 is d.cover best.1.is);
    }
      where
        best : (m : Set) × IsBest g w k m
        best = best_exists g w k

        odd : (is_odd (count g.order k) ≡ true) × (held g best.0 k ≡ count g.order k / 2)
        odd = odd_part best.0 best.1

        enough : (z l : ℕ) (a b : Bool) (c s : ℕ) → z ≡ l + bit (a && b) → l ≤ c + s → z ≤ c + (bit a + s)
        enough z l a b c s h i = grind arith

        equal : (wm lm i ld y us h : ℕ) → wm ≡ lm + i → i ≡ h → ld ≤ lm → ld ≡ y + us → lm ≤ y + us → wm ≡ y + (h + us)
        equal wm lm i ld y us h a b c d e = omega arith
