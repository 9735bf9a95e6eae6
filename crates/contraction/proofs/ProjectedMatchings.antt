-- A perfect matching at a partition is projected to a perfect matching of the quotient, each edge
-- to the edge between its two blocks, of which there is one; the cut of a set of blocks has as
-- many edges of it before and after, down and up.
use Rattle.graph_core.proofs.from_counting.Common.{◌≡◌, ◌≢◌, ℕ, ◌<◌, true, ◌==◌, ◌&&◌, List, refl, sym, ap, ◌∙◌, arith, ◌⊎◌, subst, eq-eqb, eqb-true, slice_index, same_tests, and_from, and_parts, cases_order, count_congr, rising_holds, rising_only, mem-rising_list, least_of, least_of_is, some_true, true_some, Within, mem, Set, none, some}
use Rattle.graph_core.proofs.Common.{has_ends-from, contracted-graph, contracted-order, contracted-size, carried_set, cut_carried, image, no_loop, perfect_carried, quotient-order, quotient_edge, quotient_graph, has_ends-cases, has_ends-own, Graph, HasEnds, IsGraph, edges_in_cut, first_end, has_ends, in_cut, second_end, size, IsPerfect, AreBlocks, IsPerfectAt, contracted, lifted, projected, quotient, remembered}
use Rattle.contraction.proofs.JoinedPairs.{joined-once}
use Rattle.contraction.proofs.LiftedMatchings.{least-remembered, perfect-congr}
use Rattle.contraction.proofs.QuotientLaws.{same_pairs}
use Rattle.contraction.proofs.QuotientValues.{joined-quotient}
use Rattle.contraction.specs.Pairs.{EachOnce}

-- two pairs in increasing order with the same ends
rising-same : (a b c d x y : ℕ) → a < b → c < d → ((a ≡ x) × (b ≡ y)) ⊎ ((a ≡ y) × (b ≡ x)) → ((c ≡ x) × (d ≡ y)) ⊎ ((c ≡ y) × (d ≡ x)) → (a ≡ c) × (b ≡ d)
rising-same a b c d x y l m h k = grind arith

-- no two edges of the quotient join the same places
quotient-once : (g : Graph) (p : List (List ℕ)) → EachOnce (quotient g p).ends
quotient-once g p = subst (λ (h : Graph). EachOnce h.ends) (joined-quotient g p) (joined-once (contracted g p))

pub one-edge : (g : Graph) (p : List (List ℕ)) (k l x y : ℕ) → Within (size (quotient g p)) k → Within (size (quotient g p)) l → HasEnds (quotient g p) k x y → HasEnds (quotient g p) l x y → k ≡ l
one-edge g p k l x y wk wl hk hl = grind (arith, rising-same, quotient_edge, cases_order, quotient-once)

module _ (g : Graph) (p : List (List ℕ)) (is : IsGraph g) (pp : AreBlocks g.order p) where
  -- the edge of the quotient between the two blocks of edge e
  over : ℕ → ℕ
  over e = least_of (size (quotient g p)) (has_ends (quotient g p) (first_end (contracted g p) e) (second_end (contracted g p) e))

  over-is : (e : ℕ) → Within (size (contracted g p)) e → first_end (contracted g p) e ≢ second_end (contracted g p) e → Within (size (quotient g p)) (over e) × HasEnds (quotient g p) (over e) (first_end (contracted g p) e) (second_end (contracted g p) e)
  unfolding over
  over-is e w d =
      let a = first_end (contracted g p) e in
      let b = second_end (contracted g p) e in
      let i = contracted-graph g p is pp e w in
      let own = true_some (size (contracted g p)) (has_ends (contracted g p) a b) e w (has_ends-own (contracted g p) e) in
      let l = least_of_is (size (quotient g p)) (has_ends (quotient g p) a b) (sym (same_pairs g p is pp a b (subst (λ n. Within n a) (contracted-order g p) i.0) (subst (λ n. Within n b) (contracted-order g p) i.1) d) ∙ own) in
      (l.0, has_ends-cases (quotient g p) a b (over e) l.1)

  onto : (w : ℕ) → Within (quotient g p).order w → (v : ℕ) × Within (contracted g p).order v × (v ≡ w)
  onto w ww = (w, subst (λ n. Within n w) (quotient-order g p ∙ sym (contracted-order g p)) ww, refl)

  -- what is carried over is the projection
  module _ (m : Set) (perfect : IsPerfectAt g p m) where
    carried : Set
    carried = carried_set (contracted g p) (quotient g p) (contracted-graph g p is pp) (λ v. v) over (λ u v wu wv e. e) onto over-is m perfect

    apart-ends : (e : ℕ) → Within (size (contracted g p)) e → m e ≡ true → first_end (contracted g p) e ≢ second_end (contracted g p) e
    apart-ends = no_loop (contracted g p) (quotient g p) (contracted-graph g p is pp) (λ v. v) over (λ u v wu wv e. e) onto over-is m perfect

    there : (k : ℕ) → Within (size (quotient g p)) k → carried k ≡ true → projected g p m k ≡ true
    unfolding carried carried_set image
    there k wk t =
        let r = some_true (size (contracted g p)) (λ e. m e && (over e == k)) t in
        let b = and_parts (m r.0) (over r.0 == k) r.2 in
        let o = over-is r.0 r.1 (apart-ends r.0 r.1 b.0) in
        let ends = subst (λ j. HasEnds (quotient g p) j (first_end (contracted g p) r.0) (second_end (contracted g p) r.0)) (eqb-true (over r.0) k b.1) o.1 in
        let w = subst (λ n. Within n r.0) (contracted-size g p) r.1 in
        true_some (size g) (λ e. m e && mem (remembered g p k) e) r.0 w (and_from (m r.0) (mem (remembered g p k) r.0) b.0
        (rising_holds (size g) (has_ends (contracted g p) (first_end (quotient g p) k) (second_end (quotient g p) k)) r.0 w (has_ends-from (contracted g p) (first_end (quotient g p) k) (second_end (quotient g p) k) r.0 (grind arith))))

    back : (k : ℕ) → Within (size (quotient g p)) k → projected g p m k ≡ true → carried k ≡ true
    unfolding carried carried_set image
    back k wk t =
        let r = some_true (size g) (λ e. m e && mem (remembered g p k) e) t in
        let b = and_parts (m r.0) (mem (remembered g p k) r.0) r.2 in
        let q = rising_only (size g) (has_ends (contracted g p) (first_end (quotient g p) k) (second_end (quotient g p) k)) r.0 b.1 in
        let w = subst (λ n. Within n r.0) (sym (contracted-size g p)) r.1 in
        let o = over-is r.0 w (apart-ends r.0 w b.0) in
        let mine = turned (has_ends-cases (contracted g p) (first_end (quotient g p) k) (second_end (quotient g p) k) r.0 q.1) in
        true_some (size (contracted g p)) (λ e. m e && (over e == k)) r.0 w (and_from (m r.0) (over r.0 == k) b.0 (eq-eqb (over r.0) k (one-edge g p (over r.0) k (first_end (contracted g p) r.0) (second_end (contracted g p) r.0) o.0 wk o.1 mine)))
      where
        turned : {a b c d : ℕ} → ((a ≡ c) × (b ≡ d)) ⊎ ((a ≡ d) × (b ≡ c)) → ((c ≡ a) × (d ≡ b)) ⊎ ((c ≡ b) × (d ≡ a))
        turned h = grind arith

    same : (k : ℕ) → Within (size (quotient g p)) k → carried k ≡ projected g p m k
    same k w = same_tests (carried k) (projected g p m k) (there k w) (back k w)

    pub projected-perfect : IsPerfect (quotient g p) none (projected g p m)
    unfolding carried
    projected-perfect = perfect-congr (quotient g p) carried (projected g p m) same (perfect_carried (contracted g p) (quotient g p) (contracted-graph g p is pp) (λ v. v) over (λ u v wu wv e. e) onto over-is m perfect)

    pub projected-cut : (y : Set) → edges_in_cut (quotient g p) (projected g p m) y ≡ edges_in_cut (contracted g p) m y
    unfolding carried
    projected-cut y =
        count_congr (size (quotient g p)) _ _ (λ k w. ap (λ b. b && in_cut (quotient g p) y k) (sym (same k w)))
        ∙ cut_carried (contracted g p) (quotient g p) (contracted-graph g p is pp) (λ v. v) over (λ u v wu wv e. e) onto over-is m perfect y

  -- the cuts on the way up
  least : ℕ → ℕ
  least k = slice_index (remembered g p k) 0

  least-is : (k : ℕ) → Within (size (quotient g p)) k → first_end (quotient g p) k ≢ second_end (quotient g p) k → Within (size (contracted g p)) (least k) × HasEnds (contracted g p) (least k) (first_end (quotient g p) k) (second_end (quotient g p) k)
  unfolding least
  least-is k w d = let r = least-remembered g p is pp k w in (subst (λ n. Within n (slice_index (remembered g p k) 0)) (sym (contracted-size g p)) r.0, r.1)

  back-onto : (w : ℕ) → Within (contracted g p).order w → (v : ℕ) × Within (quotient g p).order v × (v ≡ w)
  back-onto w ww = (w, subst (λ n. Within n w) (contracted-order g p ∙ sym (quotient-order g p)) ww, refl)

  pub lifted-cut : (m : Set) → IsPerfect (quotient g p) none m → (y : Set) → edges_in_cut (contracted g p) (mem (lifted g p m)) y ≡ edges_in_cut (quotient g p) m y
  unfolding least carried_set image
  lifted-cut m perfect y =
      count_congr (size (contracted g p)) _ _ (λ e w. ap (λ b. b && in_cut (contracted g p) y e) (mem-rising_list (size g) (λ e. some (size (quotient g p)) (λ k. m k && (slice_index (remembered g p k) 0 == e))) e (subst (λ n. Within n e) (contracted-size g p) w)))
      ∙ cut_carried (quotient g p) (contracted g p) (quotient_graph g p is pp) (λ v. v) least (λ u v wu wv e. e) back-onto least-is m perfect y
