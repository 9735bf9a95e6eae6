-- Pockets: even sets that only edges at two vertices leave, as the components at a cut pair. With
-- one of the two vertices a pocket has a tight cut: a perfect matching has at most one edge at each
-- of the two, and an odd number in the cut.
use Rattle.tree_check.proofs.from_counting.Common.{◌≡◌, ℕ, suc, ◌+◌, ◌*◌, ◌≤◌, Bool, true, false, ◌==◌, ◌&&◌, ◌||◌, not, refl, sym, ap, ◌∙◌, arith, eq-eqb, eqb-true, inl, inr, cases_Bool, or_cases, or_comm, both_ways, false_from_ne_true, odd-double, complement_odd, count_plus, count_minus, count_member, total_congr, total_add, total_le, total_none, Within, bit, count, is_odd, Set, pair_set, none, union, minus, singleton}
use Rattle.barrier_kit.proofs.Common.{ends_out, inner, leader_of, leader_same, leads_out}
use Rattle.barrier_kit.proofs.from_match_search.NearPerfectSets.{ends_far, ends_near}
use Rattle.graph_core.proofs.Common.{ends_of, degree_sum, degrees, parity, joined_walk, component_count, is_least, Graph, IsGraph, IsPerfect, IsTight, IsCutPair, degree, edges_in_cut, first_end, in_cut, second_end, size, joined}
use Rattle.quick_kinds.proofs.from_brick_kit.PairSeparations.{separates, stays_joined}
use Rattle.theorems.proofs.Pockets.{Pocket}

-- a set of g - r that no edge of g - r leaves is even, if g - r has a perfect matching
pub closed_even : (g : Graph) (r n z : Set) → IsGraph g → IsPerfect g r n → ((v : ℕ) → Within g.order v → z v ≡ true → r v ≡ false) →
    ((e : ℕ) → Within (size g) e → r (first_end g e) ≡ false → r (second_end g e) ≡ false → in_cut g z e ≡ false) → is_odd (count g.order z) ≡ false
closed_even g r n z is p out closed =
    let k = inner g n z in
    let a = total_congr g.order (λ v. bit (z v)) (λ v. bit (z v) * degree g n v) (λ v w. one v w (z v) refl) in
    let b = degrees g is n z in
    let y = total_none (size g) (λ e. bit (n e && in_cut g z e)) (λ e w. ap bit (no_edge (n e) (in_cut g z e) (λ t. let o = ends_out g r n is p e w t in closed e w o.0 o.1))) in
    let q : count g.order z ≡ k + k = omega arith in ap is_odd q ∙ odd-double k
  where
    no_edge : (a b : Bool) → (a ≡ true → b ≡ false) → (a && b) ≡ false
    no_edge a b h = grind arith

    one : (v : ℕ) → Within g.order v → (b : Bool) → z v ≡ b → bit (z v) ≡ bit (z v) * degree g n v
    one v w true t = let d = p.once v w (out v w t) in rw (t, d) refl
    one v w false t = rw t (omega arith)

module _ (g : Graph) (m : Set) (a c : ℕ) (p : Pocket g m a c) where
  -- in the other order
  pub pocket_back : Pocket g m c a
  pocket_back = record {
    first = p.second;
    second = p.first;
    different = λ e. p.different (sym e);
    first_out = p.second_out;
    second_out = p.first_out;
    even = p.even;
    some = p.some;
    closed = λ e w s t. p.closed e w (or_comm (a == first_end g e) (c == first_end g e) ∙ s) (or_comm (a == second_end g e) (c == second_end g e) ∙ t);
  }

  pub pocket_off : (v : ℕ) → m v ≡ true → pair_set a c v ≡ false
  pocket_off v h = false_from_ne_true (pair_set a c v) (λ t. elim (or_cases (a == v) (c == v) t) [
    | inl k ↦ both_ways (m v) (ap m (sym (eqb-true a v k)) ∙ p.first_out) h
    | inr k ↦ both_ways (m v) (ap m (sym (eqb-true c v k)) ∙ p.second_out) h
  ])

  -- what is joined to a vertex of m is in m
  pub pocket_part : IsGraph g → (u v : ℕ) → m u ≡ true → joined g (pair_set a c) u v ≡ true → m v ≡ true
  pocket_part is u v mu j = stays_joined g (pair_set a c) m is p.closed u v (joined_walk g (pair_set a c) u v j) mu

  -- if there is a vertex outside, the two vertices are a cut pair
  pub pocket_pair : IsGraph g → (z : ℕ) → Within g.order z → m z ≡ false → pair_set a c z ≡ false → IsCutPair g a c
  pocket_pair is z wz mz oz =
      let u = count_member g.order m p.some in
      separates g a c m u.0 z is p.first p.second p.different u.1 wz (pocket_off u.0 u.2) oz u.2 mz p.closed

  pub shore_size : count g.order (union m (singleton a)) ≡ count g.order m + 1
  shore_size = count_plus g.order m a p.first p.first_out

  -- an edge in the cut of m and a has an end a or an end c
  at_pair : (e : ℕ) → Within (size g) e → in_cut g (union m (singleton a)) e ≡ true → 1 ≤ ends_of g e a + ends_of g e c
  at_pair e w h = elim (cases_Bool (pair_set a c (first_end g e))) [
    | inl t ↦ hit (first_end g e) (ends_near g e) t
    | inr f ↦ elim (cases_Bool (pair_set a c (second_end g e))) [
      | inl t ↦ hit (second_end g e) (ends_far g e) t
      | inr s ↦ absurd (both_ways (in_cut g (union m (singleton a)) e) (alike (m (first_end g e)) (m (second_end g e)) (a == first_end g e) (a == second_end g e) (c == first_end g e) (c == second_end g e) f s (p.closed e w f s)) h)
    ]
  ]
    where
      hit : (x : ℕ) → 1 ≤ ends_of g e x → pair_set a c x ≡ true → 1 ≤ ends_of g e a + ends_of g e c
      hit x o t = grind arith

      alike : (x y s t u v : Bool) → (s || u) ≡ false → (t || v) ≡ false → ((x && not y) || (not x && y)) ≡ false → (((x || s) && not (y || t)) || (not (x || s) && (y || t))) ≡ false
      alike x y s t u v h k l = grind arith

  -- so there are as many of them in an edge set as there are at a and c, or fewer
  pub pocket_few : (n : Set) → edges_in_cut g n (union m (singleton a)) ≤ degree g n a + degree g n c
  pocket_few n =
      let i = total_le (size g) (λ e. bit (n e && in_cut g (union m (singleton a)) e)) (λ e. bit (n e) * ends_of g e a + bit (n e) * ends_of g e c) (λ e w. each e w (n e) (in_cut g (union m (singleton a)) e) refl) in
      let j = total_add (size g) (λ e. bit (n e) * ends_of g e a) (λ e. bit (n e) * ends_of g e c) in
      let s = degree_sum g n a in
      let t = degree_sum g n c in omega arith
    where
      each : (e : ℕ) → Within (size g) e → (k b : Bool) → in_cut g (union m (singleton a)) e ≡ b → bit (k && b) ≤ bit k * ends_of g e a + bit k * ends_of g e c
      each e w true true h = let o = at_pair e w h in omega arith
      each e w true false h = omega arith
      each e w false b h = omega arith

  pub pocket_tight : IsGraph g → is_odd g.order ≡ false → IsTight g (union m (singleton a))
  pocket_tight is even = record { odd = odd; odd_complement = complement_odd g.order (union m (singleton a)) even odd; cut = cut }
    where
      odd : is_odd (count g.order (union m (singleton a))) ≡ true
      odd = let q : count g.order (union m (singleton a)) ≡ suc (count g.order m) = let s = shore_size in omega arith in ap is_odd q ∙ ap not p.even

      cut : (n : Set) → IsPerfect g none n → edges_in_cut g n (union m (singleton a)) ≡ 1
      cut n k =
          let i = k.once a p.first refl in
          let j = k.once c p.second refl in
          let f = pocket_few n in
          settle (edges_in_cut g n (union m (singleton a))) (inner g n (union m (singleton a))) (count g.order (union m (singleton a))) (parity g is n (union m (singleton a)) k) odd (omega arith)
        where
          settle : (c k x : ℕ) → x ≡ c + 2 * k → is_odd x ≡ true → c ≤ 2 → c ≡ 1
          settle c k x e o h = grind (arith, both_ways (is_odd x), odd-double k, odd-double (k + 1))

-- for a vertex outside a cut pair, a vertex in another component
pub other_part : (h : Graph) (p q t : ℕ) → IsGraph h → IsCutPair h p q → Within h.order t → pair_set p q t ≡ false → (l : ℕ) × Within h.order l × (pair_set p q l ≡ false) × (joined h (pair_set p q) l t ≡ false)
unfolding component_count
other_part h p q t is cp wt o =
    let u = leader_of h (pair_set p q) is t wt o in
    let a = count_minus h.order (is_least h (pair_set p q)) u.0 u.1 u.2 in
    let two = cp.parts in
    let k = count_member h.order (minus (is_least h (pair_set p q)) (singleton u.0)) (omega arith) in
    let r = split (is_least h (pair_set p q) k.0) (u.0 == k.0) k.2 in
    (k.0, k.1, leads_out h (pair_set p q) k.0 r.0, false_from_ne_true (joined h (pair_set p q) k.0 t) (λ j. both_ways (u.0 == k.0) r.1 (eq-eqb u.0 k.0 (leader_same h (pair_set p q) is u.0 t k.0 u.1 wt k.1 u.2 u.3 r.0 j))))
  where
    split : (a c : Bool) → (a && not c) ≡ true → (a ≡ true) × (c ≡ false)
    split a c h = grind arith
