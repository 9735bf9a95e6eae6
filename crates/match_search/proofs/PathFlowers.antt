-- The blossom that two paths of a forest close. Two paths that meet are one up to the base, and
-- the vertices that come after it on one of them are the others of the blossom.
use Rattle.graph_core.proofs.from_counting.Common.{◌≡◌, ◌≢◌, ◌↔◌, ℕ, suc, ◌+◌, ◌-◌, ◌≤◌, ◌<◌, Bool, true, false, refl, sym, ap, ◌∙◌, arith, inl, inr, not, ◌&&◌, ◌||◌, ◌==◌, subst, eq-eqb, eqb-true, List, and_from, both_ways, cases_Bool, cases_eq, half, odd-double, only_one, or_cases, or_left, or_right, some_true, true_some, Within, is_odd, Set, mem}
use Rattle.graph_core.proofs.Common.{Graph, HasEnds, degree, missed_count}
use Rattle.match_search.specs.Common.{HoldsAlternating, ClosesForest, GoesOver, IsBeyond, IsLastIn, IsOuterOf, MeetsSet, IsAlternating, IsFlower, IsOddCycle, listed, numbers}
use Rattle.match_search.specs.declared.alternating.AlternatingForest.{AlternatingForest}
use Rattle.match_search.specs.declared.growing.Adjacent.{Adjacent}
use Rattle.match_search.proofs.ClosingEdges.{around, cycle, edges_around, high, low, spot, stem_holds}
use Rattle.match_search.proofs.Forests.{one_edge, outer_edge, turned}
use Rattle.match_search.proofs.LongerPaths.{ends_by}
use Rattle.match_search.proofs.OddCycles.{same_ends}
use Rattle.match_search.proofs.FlowerPaths.{passes}
use Rattle.match_search.proofs.ForestWalks.{closed_forest}
use Rattle.match_search.proofs.FlowerForests.{AreClosingIn, closed_flower}
use Rattle.match_search.proofs.WalkedForests.{walked_of}

-- two closing paths of a matching that misses one vertex
module _ (g : Graph) (r f : Set) (mate : List ℕ) (t : AlternatingForest) (o : Adjacent) (closes : ClosesForest g r f mate t o) (one : missed_count g r f ≡ 1) (path : List ℕ)
    (path_is : (v : ℕ) → (mem path v ≡ true) ↔ IsOuterOf (closes.holds.v o.v) (closes.holds.k o.v) v) where
  abbrev h : HoldsAlternating g r f mate t
  h = closes.holds

  abbrev p : ℕ → ℕ
  p = h.v o.w

  abbrev q : ℕ → ℕ
  q = h.v o.v

  abbrev a : ℕ → ℕ
  a = h.e o.w

  abbrev b : ℕ → ℕ
  b = h.e o.v

  abbrev k : ℕ
  k = h.k o.w

  abbrev l : ℕ
  l = h.k o.v

  abbrev pp : IsAlternating g r f k p a
  pp = h.forest.path o.w closes.w_outer

  abbrev qq : IsAlternating g r f l q b
  qq = h.forest.path o.v closes.v_outer

  -- both paths begin at the one vertex that is missed
  roots : (x y : ℕ) → Within g.order x → Within g.order y → r x ≡ false → r y ≡ false → degree g f x ≡ 0 → degree g f y ≡ 0 → x ≡ y
  unfolding missed_count
  roots x y wx wy rx ry dx dy = only_one g.order (λ w. not (r w) && (degree g f w == 0)) one x y wx wy (and_from (not (r x)) (degree g f x == 0) (ap not rx) (eq-eqb (degree g f x) 0 dx)) (and_from (not (r y)) (degree g f y == 0) (ap not ry) (eq-eqb (degree g f y) 0 dy))

  pub meets_path : MeetsSet mate t path o.w
  meets_path = record {
    h = closed_forest g r f mate t o closes;
    outer = closes.w_outer;
    place = 0;
    within = omega arith;
    member = (path_is (p 0)).1 (0, omega arith, sym (roots (p 0) (q 0) (pp.path.within 0 (omega arith)) (qq.path.within 0 (omega arith)) (pp.path.outside 0 (omega arith)) (qq.path.outside 0 (omega arith)) pp.free qq.free));
  }

  module _ (base : ℕ) (base_outer : mem t.outer base ≡ true) (base_in : mem path base ≡ true) (second : List ℕ) (last : IsLastIn h.k h.v path o.w base second) where
    abbrev half_way : ℕ
    half_way = h.k base

    abbrev i : ℕ
    i = half_way + half_way

    base_last : h.v base i ≡ base
    base_last = h.forest.last base base_outer

    p_base : p i ≡ base
    p_base = sym (last.over i (omega arith)) ∙ base_last

    on_path : IsOuterOf q l base
    on_path = (path_is base).0 base_in

    pass : (on_path.0 + on_path.0 ≡ i) × GoesOver h.k h.v base o.v
    pass = passes g r f mate t h l o.v base (on_path.0 + on_path.0) (omega arith) closes.v_outer base_outer (let s = on_path.1 in omega arith) on_path.2

    q_base : q i ≡ base
    q_base = sym (pass.1 i (omega arith)) ∙ base_last

    li : i ≤ k + k
    li = let s = last.pairs in omega arith

    lj : i ≤ l + l
    lj = let s = pass.0 in let d = on_path.1 in omega arith

    meet : p i ≡ q i
    meet = p_base ∙ sym q_base

    -- up to the base the paths are one
    shared : (j : ℕ) → j ≤ i → p j ≡ q j
    shared j d = sym (last.over j d) ∙ pass.1 j d

    p_sides : (s : ℕ) → s ≤ k + k → mem t.inner (p s) ≡ is_odd s
    p_sides s d = (h.forest.sides o.w closes.w_outer s d).1

    q_sides : (s : ℕ) → s ≤ l + l → mem t.inner (q s) ≡ is_odd s
    q_sides s d = (h.forest.sides o.v closes.v_outer s d).1

    latest_even : (s u : ℕ) → half_way < s → s + s ≤ k + k → u ≤ l + l → p (s + s) ≢ q u
    latest_even s u lo hi d e =
        let even : is_odd u ≡ false = sym (q_sides u d) ∙ ap (mem t.inner) (sym e) ∙ p_sides (s + s) hi ∙ odd-double s in
        let c = half u even in
        let z = c.1 in
        both_ways (mem path (p (s + s))) (last.later s lo (omega arith)) ((path_is (p (s + s))).1 (c.0, omega arith, ap q (sym z) ∙ sym e))

    latest : (s u : ℕ) → i < s → s ≤ k + k → u ≤ l + l → p s ≢ q u
    latest s u lo hi d e = elim (cases_Bool (is_odd s)) [
      | inr even ↦ let c = half s even in let z = c.1 in latest_even c.0 u (omega arith) (omega arith) d (ap p (sym z) ∙ e)
      | inl odd ↦
          let even : is_odd (suc s) ≡ false = ap not odd in
          let c = half (suc s) even in
          let z = c.1 in
          let s_in : s < k + k = omega arith in
          let odd_u : is_odd u ≡ true = sym (q_sides u d) ∙ ap (mem t.inner) (sym e) ∙ p_sides s hi ∙ odd in
          let u_in : u < l + l = grind arith in
          let e1 = pp.path.ends s s_in in
          let e2 = subst (λ z. HasEnds g (b u) z (q (suc u))) (sym e) (qq.path.ends u u_in) in
          let same = one_edge g r f closes.mates.matching (a s) (b u) (p s) (p (suc s)) (q (suc u)) (pp.path.within s hi) (pp.path.real s s_in) (qq.path.real u u_in) (pp.turns s s_in ∙ odd) (qq.turns u u_in ∙ odd_u) e1 e2 in
          elim (same_ends g (a s) (p s) (p (suc s)) (p s) (q (suc u)) e1 (ends_by g (a s) (b u) (p s) (p s) (q (suc u)) (q (suc u)) same refl refl e2)) [
            | inl x ↦ latest_even c.0 (suc u) (omega arith) (omega arith) (omega arith) (ap p (sym z) ∙ x.1)
            | inr x ↦ let y = pp.path.apart (suc s) s (omega arith) hi x.1 in absurd (omega arith)
          ]
    ]

    abbrev d : ℕ
    d = closes.edge.0

    closing : HasEnds g d (p (k + k)) (q (l + l))
    closing = ends_by g d d (p (k + k)) o.w (q (l + l)) o.v refl (h.forest.last o.w closes.w_outer) (h.forest.last o.v closes.v_outer) (turned g d o.v o.w closes.edge.2)

    two : p (k + k) ≢ q (l + l)
    two e = closes.different (sym (h.forest.last o.v closes.v_outer) ∙ sym e ∙ h.forest.last o.w closes.w_outer)

    off : f d ≡ false
    off = outer_edge g closes.graph r f closes.mates.matching (mem t.outer) (mem t.inner) h.k h.v h.e h.forest d o.v o.w closes.edge.1 closes.edge.2 closes.v_outer (h.forest.apart o.w closes.w_outer)

    abbrev m : ℕ
    m = l + l - i

    abbrev x : ℕ
    x = k + k - i

    mj : m + i ≡ l + l
    mj = let s = lj in omega arith

    xi : x + i ≡ k + k
    xi = let s = li in omega arith

    abbrev n : ℕ
    n = suc (m + x)

    abbrev round : ℕ → ℕ
    round = around g r f closes.mates.matching (mem t.inner) k l p a q b pp qq p_sides q_sides d closes.edge.1 closing two off i i li lj meet latest m x mj xi

    abbrev edge_round : ℕ → ℕ
    edge_round = edges_around g r f closes.mates.matching (mem t.inner) k l p a q b pp qq p_sides q_sides d closes.edge.1 closing two off i i li lj meet latest m x mj xi

    round_low : (y : ℕ) → y ≤ m → round (suc y) ≡ q (i + y)
    round_low = low g r f closes.mates.matching (mem t.inner) k l p a q b pp qq p_sides q_sides d closes.edge.1 closing two off i i li lj meet latest m x mj xi

    round_high : (s y : ℕ) → y ≤ k + k → s + y ≡ k + k + suc (suc m) → round s ≡ p y
    round_high = high g r f closes.mates.matching (mem t.inner) k l p a q b pp qq p_sides q_sides d closes.edge.1 closing two off i i li lj meet latest m x mj xi

    odd_cycle : IsOddCycle g r n round edge_round
    odd_cycle = cycle g r f closes.mates.matching (mem t.inner) k l p a q b pp qq p_sides q_sides d closes.edge.1 closing two off i i li lj meet latest m x mj xi

    first_place : Within n 1
    first_place = (omega arith, omega arith)

    round_base : round 1 ≡ base
    round_base = grind (arith, round_low 0, q_base)

    -- the walk from the other end stops at the base too
    pub meets_base : (set : List ℕ) → ((v : ℕ) → mem set v ≡ (base == v)) → MeetsSet mate t set o.v
    meets_base set is = record {
      h = closed_forest g r f mate t o closes;
      outer = closes.v_outer;
      place = half_way;
      within = let z = lj in omega arith;
      member = is (q i) ∙ eq-eqb base (q i) (sym q_base);
    }

    -- a vertex of the cycle is the base, or comes after it on one of the paths
    module _ (set first members : List ℕ) (stop : ℕ) (set_is : (v : ℕ) → mem set v ≡ (base == v)) (stop_in : mem set stop ≡ true) (side : IsLastIn h.k h.v set o.v stop first) (members_are : (v : ℕ) → mem members v ≡ ((mem first v || mem second v) || base == v)) where
      stops : stop ≡ base
      stops = sym (eqb-true base stop (sym (set_is stop) ∙ stop_in))

      first_is : (v : ℕ) → (mem first v ≡ true) ↔ IsBeyond q i l v
      first_is v = subst (λ (x : ℕ). (mem first v ≡ true) ↔ IsBeyond q (h.k x + h.k x) l v) stops (side.way_is v)

      same_bool : (s u : Bool) → (s ≡ true → u ≡ true) → (u ≡ true → s ≡ true) → s ≡ u
      same_bool s u there back = grind arith

      into : (v : ℕ) → mem members v ≡ true → listed n round v ≡ true
      into v z = elim (or_cases (mem first v || mem second v) (base == v) (sym (members_are v) ∙ z)) [
        | inr e ↦ true_some n (λ s. round s == v) 1 first_place (eq-eqb (round 1) v (round_base ∙ eqb-true base v e))
        | inl e ↦ elim (or_cases (mem first v) (mem second v) e) [
          | inl c ↦
              let w = (first_is v).0 c in
              let lo = w.1 in
              let hi = w.2 in
              true_some n (λ s. round s == v) (suc (w.0 - i)) (omega arith, omega arith) (eq-eqb (round (suc (w.0 - i))) v (round_low (w.0 - i) (omega arith) ∙ ap q (omega arith) ∙ w.3))
          | inr c ↦
              let w = (last.way_is v).0 c in
              let lo = w.1 in
              let hi = w.2 in
              true_some n (λ s. round s == v) (k + k + suc (suc m) - w.0) (omega arith, omega arith) (eq-eqb (round (k + k + suc (suc m) - w.0)) v (round_high (k + k + suc (suc m) - w.0) w.0 hi (omega arith) ∙ w.3))
        ]
      ]

      from : (v : ℕ) → listed n round v ≡ true → mem members v ≡ true
      from v z =
          let at = some_true n (λ s. round s == v) z in
          let here = eqb-true (round at.0) v at.2 in
          members_are v ∙ elim (spot g r f closes.mates.matching (mem t.inner) k l p a q b pp qq p_sides q_sides d closes.edge.1 closing two off i i li lj meet latest m x mj xi at.0 at.1) [
            | inl s ↦
                let y_in = s.1 in
                let v_is : q (i + s.0) ≡ v = sym (ap round s.2 ∙ round_low s.0 s.1) ∙ here in
                elim (cases_eq s.0 0) [
                  | inl e ↦ or_right (mem first v || mem second v) (base == v) (eq-eqb base v (sym q_base ∙ ap q (omega arith) ∙ v_is))
                  | inr e ↦ or_left (mem first v || mem second v) (base == v) (or_left (mem first v) (mem second v) ((first_is v).1 (i + s.0, omega arith, (let z = mj in omega arith), v_is)))
                ]
            | inr s ↦
                let v_is : p s.0 ≡ v = sym (round_high at.0 s.0 s.2 s.3) ∙ here in
                or_left (mem first v || mem second v) (base == v) (or_right (mem first v) (mem second v) ((last.way_is v).1 (s.0, s.1, s.2, v_is)))
          ]

      members_listed : (v : ℕ) → mem members v ≡ listed n round v
      members_listed v = same_bool (mem members v) (listed n round v) (into v) (from v)

      closing_in : AreClosingIn (mem t.outer) h.k h.v (mem members) base o.w o.v
      closing_in = record {
        base_outer = base_outer;
        x_outer = closes.w_outer;
        y_outer = closes.v_outer;
        x_long = last.pairs;
        y_long = let z = lj in omega arith;
        x_over = last.over;
        y_over = pass.1;
        latest = latest;
        members = λ u z. elim (or_cases (mem first u || mem second u) (base == u) (sym (members_are u) ∙ z)) [
          | inr e ↦ inl (eqb-true base u e)
          | inl e ↦ elim (or_cases (mem first u) (mem second u) e) [
            | inl c ↦ inr (inr ((first_is u).0 c))
            | inr c ↦ inr (inl ((last.way_is u).0 c))
          ]
        ];
        base = members_are base ∙ or_right (mem first base || mem second base) (base == base) (eq-eqb base base refl);
        x_in = λ j lo hi. members_are (p j) ∙ or_left (mem first (p j) || mem second (p j)) (base == p j) (or_right (mem first (p j)) (mem second (p j)) ((last.way_is (p j)).1 (j, lo, hi, refl)));
        y_in = λ j lo hi. members_are (q j) ∙ or_left (mem first (q j) || mem second (q j)) (base == q j) (or_left (mem first (q j)) (mem second (q j)) ((first_is (q j)).1 (j, lo, hi, refl)));
      }

      -- the forest can go on after the blossom
      pub flower_closed : IsFlower g r f (mem t.outer) closes.holds.k closes.holds.v (numbers mate) (mem members) base
      flower_closed = closed_flower g closes.graph r f (mem t.outer) (mem t.inner) (numbers t.parent.items) (numbers mate) closes.mates (walked_of g r f mate t h) (mem members) base o.w o.v closing_in
          n round edge_round odd_cycle round_base members_listed (stem_holds g r f closes.mates.matching (mem t.inner) k l p a q b pp qq p_sides q_sides d closes.edge.1 closing two off i i li lj meet latest m x mj xi half_way refl)
