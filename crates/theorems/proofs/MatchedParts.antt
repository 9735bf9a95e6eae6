-- How a maximum matching meets the sets D, A and C, and that the components of G[D] are
-- factor-critical. Each odd component of G - A has a missed vertex or an edge that leaves it; the
-- bound of Berge is attained at A, so it has one of these (and the sums of OpenParts are tight).
use Rattle.tree_check.proofs.from_counting.Common.{◌≡◌, ℕ, ◌+◌, ◌*◌, ◌≤◌, Bool, true, false, ◌==◌, sym, ap, ap₂, ◌∙◌, arith, ◌&&◌, ◌||◌, not, eq-eqb, eqb-true, subst, inl, inr, cases_Bool, both_ways, false_from_ne_true, and_parts, and_from, not-false, not-true, bit_true, count_congr, count_zero, two_members, member_count, total_tight, fun_ext, Within, bit, count, is_odd, total, Set, complement, minus, none, singleton}
use Rattle.barrier_kit.proofs.Common.{leader_of, part_same}
use Rattle.graph_core.proofs.Common.{joined_outside, walk_joined, maximum_exists, edge_at, joined_self, component_count, is_least, odd_component_count, Graph, HasEnds, IsGraph, degree, edges_in_cut, first_end, in_cut, second_end, size, IsMaximum, missed_count, joined}
use Rattle.theorems.proofs.MatchedWithin.{crossing_ends, met_once, not_at, other_end, perfect_within}
use Rattle.theorems.proofs.OpenParts.{a_bound, cut_bound, cut_sum, each_open, edge_sum, into_a, lead_bound, leaving_at, missed_at, missed_few, missed_sum, odd_lead, one_each, open_sum, size_of}
use Rattle.theorems.proofs.ThreeSets.{attains, component_is, components_odd, d_odd, d_out, d_step, ends_within, turn_ends}
use Rattle.theorems.specs.Matchings.{AreThreeSets, HasPerfectWithin, IsFactorCritical, MatchesAllButOne, MatchesWithin, component_in}

module _ (g : Graph) (is : IsGraph g) (d a c : Set) (sets : AreThreeSets g d a c) (m : Set) (mm : IsMaximum g none m) where
  abbrev lead : Set
  lead = odd_lead g a

  abbrev missed : ℕ → ℕ
  missed = missed_at g a m

  abbrev leaving : ℕ → ℕ
  leaving = leaving_at g a m

  all_leads : missed_count g none m + count g.order a ≡ total g.order (λ u. bit (lead u))
  unfolding odd_component_count
  all_leads = attains g is d a c sets m mm

  tight_lead : (u : ℕ) → Within g.order u → bit (lead u) * (missed u + leaving u) ≡ bit (lead u)
  tight_lead = total_tight g.order (λ u. bit (lead u) * (missed u + leaving u)) (λ u. bit (lead u)) (each_open g is d a c sets m mm.is) (omega (arith, open_sum g is d a c sets m mm.is, missed_sum g is d a c sets m mm.is, cut_sum g is d a c sets m mm.is, missed_few g is d a c sets m mm.is, cut_bound g is d a c sets m mm.is, a_bound g is d a c sets m mm.is, all_leads))

  tight_a : (v : ℕ) → Within g.order v → bit (a v) ≡ bit (a v) * degree g m v
  tight_a = total_tight g.order (λ v. bit (a v)) (λ v. bit (a v) * degree g m v) (one_each g is d a c sets m mm.is) (omega (arith, lead_bound g is d a c sets m mm.is, open_sum g is d a c sets m mm.is, missed_sum g is d a c sets m mm.is, cut_sum g is d a c sets m mm.is, missed_few g is d a c sets m mm.is, cut_bound g is d a c sets m mm.is, all_leads))

  tight_edge : (e : ℕ) → Within (size g) e → bit (m e && a (first_end g e)) + bit (m e && a (second_end g e)) ≡ bit (m e && in_cut g d e)
  tight_edge = total_tight (size g) (λ e. bit (m e && a (first_end g e)) + bit (m e && a (second_end g e))) (λ e. bit (m e && in_cut g d e)) (into_a g is d a c sets m mm.is) (omega (arith, lead_bound g is d a c sets m mm.is, open_sum g is d a c sets m mm.is, missed_sum g is d a c sets m mm.is, cut_sum g is d a c sets m mm.is, missed_few g is d a c sets m mm.is, edge_sum g is d a c sets m mm.is, a_bound g is d a c sets m mm.is, all_leads))

  -- the component of a vertex of D has one missed vertex and no edge that leaves it, or none and
  -- one
  one_open : (u : ℕ) → Within g.order u → d u ≡ true → missed u + leaving u ≡ 1
  one_open u w du =
      let l = leader_of g a is u w (d_out g is d a c sets u w du) in
      let same = part_same g a is l.0 u l.1 w l.3 in
      let odd = ap is_odd (count_congr g.order (joined g a l.0) (joined g a u) (λ v wv. same v)) ∙ d_odd g is d a c sets u w du in
      let t = and_from (is_least g a l.0) (is_odd (count g.order (joined g a l.0))) l.2 odd in
      let one : bit true * (missed l.0 + leaving l.0) ≡ bit true = subst (λ b. bit b * (missed l.0 + leaving l.0) ≡ bit b) t (tight_lead l.0 l.1) in
      let x : missed l.0 ≡ missed u = count_congr g.order _ _ (λ v wv. ap (λ b. b && (degree g m v == 0)) (same v)) in
      let y : leaving l.0 ≡ leaving u = count_congr (size g) _ _ (λ e we. ap (λ k. m e && k) (ap₂ (λ s t. (s && not t) || (not s && t)) (same (first_end g e)) (same (second_end g e)))) in
      omega arith

  -- a vertex of A is met, and its edge goes to D
  pub a_met : (v : ℕ) → Within g.order v → a v ≡ true → degree g m v ≡ 1
  a_met v w t = let x : bit true ≡ bit true * degree g m v = subst (λ b. bit b ≡ bit b * degree g m v) t (tight_a v w) in omega arith

  pub a_edge : (e v w : ℕ) → Within (size g) e → m e ≡ true → HasEnds g e v w → a v ≡ true → d w ≡ true
  a_edge e v w we me h av =
      let wv = (ends_within g e v w is we h).0 in
      let dv = false_from_ne_true (d v) (λ t. both_ways (a v) (d_out g is d a c sets v wv t) av) in
      other_end g d e v w h (and_parts (m e) (in_cut g d e) (bit_true (m e && in_cut g d e) (let x = tight_edge e we in let y = some_a in omega arith))).1 dv
    where
      some_a : 1 ≤ bit (m e && a (first_end g e)) + bit (m e && a (second_end g e))
      some_a = elim h [
        | inl q ↦ let x = ap bit (and_from (m e) (a (first_end g e)) me (ap a q.0 ∙ av)) in omega arith
        | inr q ↦ let x = ap bit (and_from (m e) (a (second_end g e)) me (ap a q.1 ∙ av)) in omega arith
      ]

  pub from_a : (v : ℕ) → Within g.order v → a v ≡ true → (e w : ℕ) × Within (size g) e × (m e ≡ true) × HasEnds g e v w × (d w ≡ true)
  from_a v wv av =
      let e = edge_at g m v (let x = a_met v wv av in omega arith) in
      (e.0, e.3.0, e.1, e.2, e.3.1, a_edge e.0 v e.3.0 e.1 e.2 e.3.1 av)

  pub apart : (u : ℕ) → Within g.order u → d u ≡ true → edges_in_cut g m (component_in g d u) ≤ 1
  apart u w du = subst (λ (k : Set). edges_in_cut g m k ≤ 1) (sym (component_is g is d a c sets u w du)) (let x = one_open u w du in omega arith)

  -- no edge leaves a component of which a vertex is missed
  pub missed_part : (u w : ℕ) → Within g.order u → Within g.order w → d u ≡ true → component_in g d u w ≡ true → degree g m w ≡ 0 → edges_in_cut g m (component_in g d u) ≡ 0
  missed_part u w wu ww du j z = subst (λ (k : Set). edges_in_cut g m k ≡ 0) (sym (component_is g is d a c sets u wu du)) (
      let x = one_open u wu du in
      let y = member_count g.order (λ v. joined g a u v && (degree g m v == 0)) w ww (and_from (joined g a u w) (degree g m w == 0) (ap (λ (k : Set). k w) (sym (component_is g is d a c sets u wu du)) ∙ j) (eq-eqb (degree g m w) 0 z)) in
      omega arith)

  pub near : (u : ℕ) → Within g.order u → d u ≡ true → MatchesAllButOne g m (component_in g d u)
  near u w du = subst (λ (k : Set). MatchesAllButOne g m k) (sym (component_is g is d a c sets u w du)) (let x = one_open u w du in let y = size_of g is d a c sets m mm.is u in omega arith)

  c_out : (v : ℕ) → Within g.order v → c v ≡ true → (d v ≡ false) × (a v ≡ false)
  c_out v w t = let q = (sets.in_c v w).0 t in (false_from_ne_true (d v) (λ s. q.0 ((sets.in_d v w).0 s)), false_from_ne_true (a v) (λ s. q.1 ((sets.in_a v w).0 s)))

  pub in_c : MatchesWithin g m c
  in_c = perfect_within g m c met (λ e w. false_from_ne_true (m e && in_cut g c e) (λ t.
      let p = and_parts (m e) (in_cut g c e) t in
      let q = crossing_ends g c e p.1 in
      no_edge e q.0 q.1 w p.0 q.2 q.3 q.4))
    where
      met : (v : ℕ) → Within g.order v → c v ≡ true → degree g m v ≡ 1
      met v w t = met_once (degree g m v) (mm.is.once v w) (λ z. ((sets.in_c v w).0 t).0 (m, mm, z))

      no_edge : (e v w : ℕ) → Within (size g) e → m e ≡ true → HasEnds g e v w → c v ≡ true → c w ≡ false → ⊥
      no_edge e v w we me h cv cw =
          let i = ends_within g e v w is we h in
          let o = c_out v i.0 cv in
          elim (cases_Bool (a w)) [
            | inl t ↦ both_ways (d v) o.0 (a_edge e w v we me (turn_ends g e v w h) t)
            | inr aw ↦ elim (cases_Bool (d w)) [
              | inl t ↦ both_ways (d v) o.0 (d_step g is d a c sets e w v we (turn_ends g e v w h) t o.1)
              | inr dw ↦ both_ways (c w) cw ((sets.in_c w i.1).1 ((λ q. both_ways (d w) dw ((sets.in_d w i.1).1 q)), (λ q. both_ways (a w) aw ((sets.in_a w i.1).1 q))))
            ]
          ]

  -- if m misses a vertex v of D, its edges inside the component of v meet each other vertex of
  -- it
  critical_at : (v : ℕ) → Within g.order v → d v ≡ true → degree g m v ≡ 0 → MatchesWithin g m (minus (joined g a v) (singleton v))
  critical_at v wv dv z = perfect_within g m (minus (joined g a v) (singleton v)) met (λ e w. false_from_ne_true (m e && in_cut g (minus (joined g a v) (singleton v)) e) (λ t.
      let p = and_parts (m e) (in_cut g (minus (joined g a v) (singleton v)) e) t in
      let q = crossing_ends g (minus (joined g a v) (singleton v)) e p.1 in
      no_edge e q.0 q.1 w p.0 q.2 q.3 q.4))
    where
      own : (joined g a v v && (degree g m v == 0)) ≡ true
      own = and_from (joined g a v v) (degree g m v == 0) (walk_joined g a is v v wv (joined_self g a v)) (eq-eqb (degree g m v) 0 z)

      none_leaves : leaving v ≡ 0
      none_leaves = let x = one_open v wv dv in let y = member_count g.order (λ w. joined g a v w && (degree g m w == 0)) v wv own in omega arith

      met : (w : ℕ) → Within g.order w → minus (joined g a v) (singleton v) w ≡ true → degree g m w ≡ 1
      met w ww t = met_once (degree g m w) (mm.is.once w ww) (λ y.
          let p = and_parts (joined g a v w) (not (v == w)) t in
          let x = one_open v wv dv in
          let n = two_members g.order (λ w. joined g a v w && (degree g m w == 0)) v w wv ww (λ q. both_ways (v == w) (not-true (v == w) p.1) (eq-eqb v w q)) own (and_from (joined g a v w) (degree g m w == 0) p.0 (eq-eqb (degree g m w) 0 y)) in absurd (omega arith))

      no_edge : (e x y : ℕ) → Within (size g) e → m e ≡ true → HasEnds g e x y → minus (joined g a v) (singleton v) x ≡ true → minus (joined g a v) (singleton v) y ≡ false → ⊥
      no_edge e x y we me h px py =
          let p = and_parts (joined g a v x) (not (v == x)) px in
          elim (cases_Bool (joined g a v y)) [
            | inl t ↦ not_at g m e v x we me (subst (λ k. HasEnds g e k x) (sym (eqb-true v y (last (joined g a v y) (v == y) t py))) (turn_ends g e x y h)) z
            | inr f ↦ both_ways (m e && in_cut g (joined g a v) e) (count_zero (size g) (λ e. m e && in_cut g (joined g a v) e) none_leaves e we) (and_from (m e) (in_cut g (joined g a v) e) me (crosses h p.0 f))
          ]
        where
          last : (s t : Bool) → s ≡ true → (s && not t) ≡ false → t ≡ true
          last s t p q = grind arith

          crosses : HasEnds g e x y → joined g a v x ≡ true → joined g a v y ≡ false → in_cut g (joined g a v) e ≡ true
          crosses h s t = elim h [
            | inl q ↦ over (joined g a v (first_end g e)) (joined g a v (second_end g e)) (ap (joined g a v) q.0 ∙ s) (ap (joined g a v) q.1 ∙ t)
            | inr q ↦ back (joined g a v (first_end g e)) (joined g a v (second_end g e)) (ap (joined g a v) q.0 ∙ t) (ap (joined g a v) q.1 ∙ s)
          ]
            where
              over : (s t : Bool) → s ≡ true → t ≡ false → ((s && not t) || (not s && t)) ≡ true
              over s t p q = grind arith

              back : (s t : Bool) → s ≡ false → t ≡ true → ((s && not t) || (not s && t)) ≡ true
              back s t p q = grind arith

module _ (g : Graph) (is : IsGraph g) (d a c : Set) (sets : AreThreeSets g d a c) where
  pub rest : HasPerfectWithin g c
  rest = let m = maximum_exists g none in (_, in_c g is d a c sets m.0 m.1)

  pub critical : (u : ℕ) → Within g.order u → d u ≡ true → IsFactorCritical g (component_in g d u)
  critical u wu du v wv j =
      let dv = not-false (d v) (joined_outside g (complement d) is u v (ap not du) j) in
      let ja : joined g a u v ≡ true = ap (λ (k : Set). k v) (sym (component_is g is d a c sets u wu du)) ∙ j in
      let same : component_in g d u ≡ joined g a v = component_is g is d a c sets u wu du ∙ fun_ext (λ w. part_same g a is u v wu wv ja w) in
      let m = (sets.in_d v wv).0 dv in
      subst (λ (k : Set). HasPerfectWithin g (minus k (singleton v))) (sym same) (_, critical_at g is d a c sets m.0 m.1 v wv dv m.2)

  pub deficiency : (m : Set) → IsMaximum g none m → missed_count g none m + count g.order a ≡ component_count g (complement d)
  deficiency m mm = attains g is d a c sets m mm ∙ sym (components_odd g is d a c sets)
