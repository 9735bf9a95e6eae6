-- The stability lemma: if v is in A(G), then D(G - v) = D(G), and a maximum matching of G - v has one
-- edge less than one of G. A maximum matching of G has an edge at v, which can be left out. A maximum
-- matching k of G - v misses two vertices more than one of G. Were v and another of them outside D,
-- then at most as many of D were missed as by one of G; but k has no edge at v, so one more of the
-- odd components of G - A has a missed vertex.
use Rattle.tree_check.proofs.from_counting.Common.{◌≡◌, ◌≢◌, ℕ, ◌+◌, ◌*◌, ◌≤◌, Bool, true, false, ◌==◌, ◌&&◌, not, refl, sym, ap, ◌∙◌, arith, ◌↔◌, inl, inr, cases_Bool, cases_lt, count_put, count_singleton, eq-eqb, eqb-true, false_from_ne_true, put, total_add, total_le, true≢false, Within, bit, count, total, Set, none, singleton}
use Rattle.graph_core.proofs.Common.{degree_put, edge_at, ends_of, maximum_exists, missed_edges, one_end, odd_component_count, missed_count, degree, size, Graph, IsGraph, IsMatching, IsMaximum, InD, HasEnds}
use Rattle.theorems.proofs.MatchedParts.{a_met}
use Rattle.theorems.proofs.OpenParts.{cut_bound, cut_sum, lead_bound, missed_sum, odd_lead, open_sum}
use Rattle.theorems.proofs.ThreeSets.{attains}
use Rattle.theorems.specs.Matchings.{AreThreeSets}

module _ (g : Graph) (is : IsGraph g) (d a c : Set) (sets : AreThreeSets g d a c) (v : ℕ) (wv : Within g.order v) (av : a v ≡ true) where
  -- a matching of G - v is one of G that misses v
  of_g : (k : Set) → IsMatching g (singleton v) k → IsMatching g none k
  of_g k kk = record { once = kk.once; away = λ w ww o. absurd (true≢false (sym o)) }

  out_v : (k : Set) → IsMatching g (singleton v) k → degree g k v ≡ 0
  out_v k kk = kk.away v wv (eq-eqb v v refl)

  not_in_d : InD g v → ⊥
  not_in_d = ((sets.in_a v wv).0 av).0

  d_v : d v ≡ false
  d_v = false_from_ne_true (d v) (λ t. not_in_d ((sets.in_d v wv).0 t))

  -- so it has fewer edges than a maximum matching of G
  fewer : (m k : Set) → IsMaximum g none m → IsMatching g (singleton v) k → count (size g) k + 1 ≤ count (size g) m
  fewer m k mm kk = elim (cases_lt (count (size g) k) (count (size g) m)) [
    | inl l ↦ omega arith
    | inr l ↦ absurd (not_in_d (k, record { is = of_g k kk; most = λ j jj. let b = mm.most j jj in omega arith }, out_v k kk))
  ]

  -- a maximum matching of G without its edge at v
  without : (m : Set) → IsMaximum g none m → (k : Set) × IsMatching g (singleton v) k × (count (size g) k + 1 ≡ count (size g) m) × ((w : ℕ) → degree g m w ≡ 0 → degree g k w ≡ 0)
  without m mm =
      let e = edge_at g m v (let x = a_met g is d a c sets m mm v wv av in omega arith) in
      let k : Set = put m e.0 false in
      let less : (w : ℕ) → degree g k w + ends_of g e.0 w ≡ degree g m w = λ w. let p = degree_put g m e.0 false w e.1 in let o = ap (λ b. bit b * ends_of g e.0 w) e.2 in omega arith in (
        k,
        record {
          once = (λ w ww. let l = less w in let o = mm.is.once w ww in omega arith);
          away = (λ w ww o. let l = less w in let p = mm.is.once w ww in let n = at_v e.0 e.3.0 e.3.1 w (eqb-true v w o) in omega arith);
        },
        (let p = count_put (size g) m e.0 false e.1 in let o = ap bit e.2 in omega arith),
        (λ w z. let l = less w in omega arith),
      )
    where
      at_v : (e y : ℕ) → HasEnds g e v y → (w : ℕ) → v ≡ w → 1 ≤ ends_of g e w
      at_v e y h w q = one_end g e w (elim h [ inl p ↦ inl (p.0 ∙ q) | inr p ↦ inr (p.1 ∙ q) ])

  pub one_less : (m k : Set) → IsMaximum g none m → IsMaximum g (singleton v) k → count (size g) k + 1 ≡ count (size g) m
  one_less m k mm kk = let f = fewer m k mm kk.is in let l = without m mm in let b = kk.most l.0 l.1 in let e = l.2 in omega arith

  module _ (w : ℕ) (ww : Within g.order w) (vw : v ≢ w) where
    stays : d w ≡ true → (k : Set) × IsMaximum g (singleton v) k × (degree g k w ≡ 0)
    stays dw =
        let m = (sets.in_d w ww).0 dw in
        let l = without m.0 m.1 in
        (l.0, record { is = l.1; most = λ j jj. let f = fewer m.0 j m.1 jj in let e = l.2 in omega arith }, l.3 w m.2)

    -- a maximum matching of G - v that misses w outside D
    module _ (k : Set) (kk : IsMaximum g (singleton v) k) (kw : degree g k w ≡ 0) (dw : d w ≡ false) where
      mk : IsMatching g none k
      mk = of_g k kk.is

      few_in_d : count g.order (λ x. d x && (degree g k x == 0)) + 2 ≤ missed_count g none k
      unfolding missed_count
      few_in_d =
          let l = total_le g.order (λ x. bit (d x && (degree g k x == 0)) + (bit (singleton v x) + bit (singleton w x))) (λ x. bit (not (none x) && (degree g k x == 0))) (λ x wx. each x) in
          let p = total_add g.order (λ x. bit (d x && (degree g k x == 0))) (λ x. bit (singleton v x) + bit (singleton w x)) in
          let q = total_add g.order (λ x. bit (singleton v x)) (λ x. bit (singleton w x)) in
          let i = count_singleton g.order v wv in
          let j = count_singleton g.order w ww in omega arith
        where
          bits : (p q r s : Bool) → (r ≡ true → (p ≡ false) × (q ≡ true)) → (s ≡ true → (p ≡ false) × (q ≡ true)) → (r ≡ true → s ≡ true → ⊥) → bit (p && q) + (bit r + bit s) ≤ bit (not false && q)
          bits p q r s h i j = grind arith

          each : (x : ℕ) → bit (d x && (degree g k x == 0)) + (bit (singleton v x) + bit (singleton w x)) ≤ bit (not (none x) && (degree g k x == 0))
          each x = bits (d x) (degree g k x == 0) (v == x) (w == x)
              (λ t. let e = eqb-true v x t in (ap d (sym e) ∙ d_v, eq-eqb (degree g k x) 0 (ap (degree g k) (sym e) ∙ out_v k kk.is)))
              (λ t. let e = eqb-true w x t in (ap d (sym e) ∙ dw, eq-eqb (degree g k x) 0 (ap (degree g k) (sym e) ∙ kw)))
              (λ s t. vw (eqb-true v x s ∙ sym (eqb-true w x t)))

      few_at_a : total g.order (λ x. bit (a x) * degree g k x) + 1 ≤ count g.order a
      few_at_a =
          let l = total_le g.order (λ x. bit (a x) * degree g k x + bit (singleton v x)) (λ x. bit (a x)) (λ x wx. each x wx) in
          let p = total_add g.order (λ x. bit (a x) * degree g k x) (λ x. bit (singleton v x)) in
          let i = count_singleton g.order v wv in omega arith
        where
          bits : (p q : Bool) (n : ℕ) → n ≤ 1 → (q ≡ true → (p ≡ true) × (n ≡ 0)) → bit p * n + bit q ≤ bit p
          bits p q n l h = grind arith

          each : (x : ℕ) → Within g.order x → bit (a x) * degree g k x + bit (singleton v x) ≤ bit (a x)
          each x wx = bits (a x) (v == x) (degree g k x) (kk.is.once x wx) (λ t. let e = eqb-true v x t in (ap a (sym e) ∙ av, ap (degree g k) (sym e) ∙ out_v k kk.is))

      impossible : ⊥
      unfolding odd_component_count
      impossible =
          let m = maximum_exists g none in
          let o = one_less m.0 k m.1 kk in
          let x = missed_edges g none m.0 is m.1.is in
          let y = missed_edges g none k is mk in
          let t : missed_count g none m.0 + count g.order a ≡ total g.order (λ u. bit (odd_lead g a u)) = attains g is d a c sets m.0 m.1 in
          absurd (omega (arith, lead_bound g is d a c sets k mk, open_sum g is d a c sets k mk, missed_sum g is d a c sets k mk, cut_sum g is d a c sets k mk, cut_bound g is d a c sets k mk, few_in_d, few_at_a))

    pub stable : (d w ≡ true) ↔ ((k : Set) × IsMaximum g (singleton v) k × (degree g k w ≡ 0))
    stable = (stays, (λ h. elim (cases_Bool (d w)) [ inl t ↦ t | inr f ↦ absurd (impossible h.0 h.1 h.2 f) ]))
