-- Let G - u - v have a perfect matching. Each component of it is even, and the cut of each together
-- with u is tight. A perfect matching has an edge or two at u and v, and an odd shore has an odd
-- number in its cut.
use Rattle.graph_core.proofs.from_counting.Common.{◌≡◌, ℕ, suc, ◌+◌, ◌*◌, ◌≤◌, ◌≢◌, Bool, true, false, ◌==◌, refl, sym, ap, ◌∙◌, arith, ◌&&◌, ◌||◌, not, eq-eqb, ne_eqb, eqb-true, inl, inr, false_from_ne_true, both_ways, or_cases, count_congr, count_complement, count_plus, count_minus, count_member, member_count, odd-double, complement_odd, count_singleton, count_mono, total_congr, total_add, total_le, total_none, bit, count, Within, is_odd, Set, pair_set, none, union, minus, complement, singleton}
use Rattle.barrier_kit.proofs.Common.{leads_out, leader_of, leader_same, part_step, part_out, part_same, inner, ends_out}
use Rattle.graph_core.proofs.Common.{joined_outside, walk_joined, ends_of, degree_sum, missed_edges, degrees, parity, perfect_matching, perfect_misses, nontrivial-same, tight-same, joined_self, is_least, component_count, Graph, size, first_end, second_end, IsGraph, in_cut, degree, edges_in_cut, IsPerfect, IsCutPair, IsTight, IsNontrivial, joined}
use Rattle.barrier_kit.proofs.from_match_search.NearPerfectSets.{ends_far, ends_near}

module _ (g : Graph) (is : IsGraph g) (u v : ℕ) (wu : Within g.order u) (wv : Within g.order v) (d : u ≢ v) (n : Set) (pn : IsPerfect g (pair_set u v) n) where
  abbrev pair : Set
  pair = pair_set u v

  pair_u : pair u ≡ true
  pair_u = rw (eq-eqb u u refl) refl

  pair_v : pair v ≡ true
  pair_v = grind arith

  alike : (k a b : Bool) → (k ≡ true → a ≡ b) → (k && ((a && not b) || (not a && b))) ≡ false
  alike k a b h = grind arith

  even_order : is_odd g.order ≡ false
  even_order =
      let a = missed_edges g pair n is (perfect_matching g pair n pn) in
      let b = perfect_misses g pair n pn in
      let c = count_complement g.order pair in
      let e = count_plus g.order (singleton u) v wv (ne_eqb u v d) in
      let f = count_singleton g.order u wu in
      let k = count (size g) n in
      let q : g.order ≡ (k + 1) + (k + 1) = omega arith in ap is_odd q ∙ odd-double (k + 1)

  module _ (l : ℕ) (wl : Within g.order l) (ll : is_least g pair l ≡ true) where
    abbrev part : Set
    part = joined g pair l

    -- each component is even
    pub even_part : is_odd (count g.order part) ≡ false
    even_part =
        let k = inner g n part in
        let a = total_congr g.order (λ x. bit (part x)) (λ x. bit (part x) * degree g n x) (λ x w. grind (arith, joined_outside, leads_out)) in
        let b = degrees g is n part in
        let z = total_none (size g) (λ e. bit (n e && in_cut g part e)) (λ e w. ap bit (alike (n e) (part (first_end g e)) (part (second_end g e)) (λ t. let o = ends_out g pair n is pn e w t in part_step g pair l e is wl w o.0 o.1))) in
        let q : count g.order part ≡ k + k = omega arith in ap is_odd q ∙ odd-double k

    abbrev shore : Set
    shore = union part (singleton u)

    shore_count : count g.order shore ≡ count g.order part + 1
    shore_count = count_plus g.order part u wu (part_out g pair l u is (leads_out g pair l ll) pair_u)

    shore_odd : is_odd (count g.order shore) ≡ true
    shore_odd = let q : count g.order shore ≡ suc (count g.order part) = let a = shore_count in omega arith in ap is_odd q ∙ ap not even_part

    -- an edge in the cut has an end u or an end v
    at_pair : (e : ℕ) → Within (size g) e → in_cut g shore e ≡ true → 1 ≤ ends_of g e u + ends_of g e v
    at_pair e w h = grind (arith, hit, ends_near, ends_far, part_step, both_ways)
      where
        hit : (x : ℕ) → 1 ≤ ends_of g e x → pair x ≡ true → 1 ≤ ends_of g e u + ends_of g e v
        hit x o t = grind arith

    shore_cut : (m : Set) → IsPerfect g none m → edges_in_cut g m shore ≡ 1
    shore_cut m p =
        let a = total_le (size g) (λ e. bit (m e && in_cut g shore e)) (λ e. bit (m e) * ends_of g e u + bit (m e) * ends_of g e v) (λ e w. grind (arith, at_pair)) in
        let b = total_add (size g) (λ e. bit (m e) * ends_of g e u) (λ e. bit (m e) * ends_of g e v) in
        let c = degree_sum g m u in let f = degree_sum g m v in
        let i = p.once u wu refl in let j = p.once v wv refl in
        settle (edges_in_cut g m shore) (inner g m shore) (count g.order shore) (parity g is m shore p) shore_odd (omega arith)
      where
        settle : (c k x : ℕ) → x ≡ c + 2 * k → is_odd x ≡ true → c ≤ 2 → c ≡ 1
        settle c k x e o h = grind (arith, both_ways (is_odd x), odd-double k, odd-double (k + 1))

    pub shore_tight : IsTight g shore
    shore_tight = record { odd = shore_odd; odd_complement = complement_odd g.order shore even_order shore_odd; cut = shore_cut }

    pub two_in : 2 ≤ count g.order part
    two_in = go (count g.order part) (member_count g.order part l wl (walk_joined g pair is l l wl (joined_self g pair l))) even_part
      where
        go : (k : ℕ) → 1 ≤ k → is_odd k ≡ false → 2 ≤ k
        go k h e = grind arith

  -- with two components, each and u make a nontrivial set
  pub shore_nontrivial : (l : ℕ) → Within g.order l → is_least g pair l ≡ true → 2 ≤ component_count g pair → IsNontrivial g.order (union (joined g pair l) (singleton u))
  unfolding component_count
  shore_nontrivial l wl ll two =
      let a = count_minus g.order (is_least g pair) l wl ll in
      let k = count_member g.order (minus (is_least g pair) (singleton l)) (omega arith) in
      let p = split (is_least g pair k.0) (l == k.0) k.2 in
      let b = two_in k.0 k.1 p.0 in
      let c = count_plus g.order (joined g pair k.0) v wv (part_out g pair k.0 v is (leads_out g pair k.0 p.0) pair_v) in
      let e = count_mono g.order (union (joined g pair k.0) (singleton v)) (complement (union (joined g pair l) (singleton u))) (λ x w h. elim (or_cases (joined g pair k.0 x) (v == x) h) [
        | inl j ↦ rw (
          false_from_ne_true (joined g pair l x) (λ t. both_ways (l == k.0) p.1 (eq-eqb l k.0 (leader_same g pair is l x k.0 wl w k.1 ll t p.0 j))),
          ne_eqb u x (λ q. both_ways (pair x) (joined_outside g pair is k.0 x (leads_out g pair k.0 p.0) j) (ap pair (sym q) ∙ pair_u)),
        ) refl
        | inr q ↦ let i = eqb-true v x q in rw (part_out g pair l x is (leads_out g pair l ll) (ap pair (sym i) ∙ pair_v), ne_eqb u x (λ t. d (t ∙ sym i))) refl
      ]) in
      let f = shore_count l wl ll in let i = two_in l wl ll in
      record { inside = omega arith; outside = omega arith }
    where
      split : (a c : Bool) → (a && not c) ≡ true → (a ≡ true) × (c ≡ false)
      split a c h = grind arith

  -- the component of any vertex outside the pair, and u
  pub separation_tight : (a : ℕ) → Within g.order a → pair a ≡ false → IsTight g (union (joined g pair a) (singleton u))
  separation_tight a wa o = let l = leader_of g pair is a wa o in
      tight-same g _ _ is (λ x w. ap (λ k. k || (u == x)) (part_same g pair is l.0 a l.1 wa l.3 x)) (shore_tight l.0 l.1 l.2)

  pub separation_nontrivial : (a : ℕ) → Within g.order a → pair a ≡ false → IsCutPair g u v → IsNontrivial g.order (union (joined g pair a) (singleton u))
  separation_nontrivial a wa o c = let l = leader_of g pair is a wa o in
      nontrivial-same g.order (union (joined g pair l.0) (singleton u)) _ (λ x w. ap (λ k. k || (u == x)) (part_same g pair is l.0 a l.1 wa l.3 x)) (shore_nontrivial l.0 l.1 l.2 c.parts)

  pub separation_even : (a : ℕ) → Within g.order a → pair a ≡ false → is_odd (count g.order (joined g pair a)) ≡ false
  separation_even a wa o = let l = leader_of g pair is a wa o in
      ap is_odd (count_congr g.order _ _ (λ x w. sym (part_same g pair is l.0 a l.1 wa l.3 x))) ∙ even_part l.0 l.1 l.2
