-- A pair outside a barrier that serves together with no pair inside: some part of the barrier
-- leaves as many components as it has vertices and joins the two vertices of the pair. So it is
-- for a list of pairs at once.
use Rattle.graph_core.proofs.from_counting.Common.{◌≡◌, ℕ, suc, ◌+◌, ◌*◌, ◌≤◌, ◌≢◌, Bool, true, false, ◌==◌, refl, sym, ap, ap₂, ◌∙◌, arith, ◌&&◌, ◌||◌, not, eq-eqb, eqb-true, inl, inr, nat_lt, lt-ltb, [], ◌∷◌, ◌++◌, List, cases_eq, cases_Bool, and_parts, and_from, both_ways, true≢false, false_from_ne_true, or_left, or_parts, or_cases, at_le_total, but_not, Within, bit, count, Set, meet, none, union, IsIn}
use Rattle.barrier_kit.proofs.Common.{equivalent_barrier}
use Rattle.graph_core.proofs.Common.{degree_congr, adjacent-edge, adjacent_from, has_ends-cases, has_ends-own, component_count, IsCovered, Graph, IsGraph, degree, first_end, second_end, size, with_ends, IsPerfect, Equivalent, IsBarrier, adjacent, joined}
use Rattle.two_ears.proofs.AddedEdges.{degree-added, each-with_pairs, keeps-added, keeps-with_pairs, new-joined}
use Rattle.two_ears.proofs.BarrierComponents.{all_components, meet_full, no_more_components, none_inside, some_perfect}
use Rattle.two_ears.proofs.ComponentCuts.{odd_need}
use Rattle.two_ears.proofs.JoinedClasses.{adjacent_joined, class_count-components, keeps-itself, joined_equivalence, joined_more, joined_steps}
use Rattle.two_ears.proofs.ClassCounts.{coarser, strictly}
use Rattle.two_ears.specs.AddedEdges.{KeepsEdges, with_pairs}
use Rattle.two_ears.specs.VertexPairs.{set_of_pair}

-- a part b of s that holds u and v, leaves as many components as it has vertices, and keeps x and
-- y together
pub record PairBarrier (g : Graph) (s : Set) (u v : ℕ) (P : Set → Type 0) : Type 0 where
  pub b : Set
  pub less : (w : ℕ) → Within g.order w → b w ≡ true → s w ≡ true
  pub has_u : b u ≡ true
  pub has_v : b v ≡ true
  pub full : component_count g b ≡ count g.order b
  pub keeps : P b

module _ (g : Graph) (is : IsGraph g) (cov : IsCovered g) (s : Set) (bar : IsBarrier g s) (u v : ℕ) (wu : Within g.order u) (wv : Within g.order v) (d : u ≢ v) (su : s u ≡ true) (sv : s v ≡ true)
    (class : (w : ℕ) → Within g.order w → Equivalent g u w → s w ≡ true) (alone : (m : Set) → IsPerfect g (set_of_pair (u, v)) m → ⊥) where
  abbrev pub Fits : ℕ × ℕ → Type 0
  Fits p = (Within g.order p.0 × Within g.order p.1) × (s p.0 ≡ false) × (s p.1 ≡ false) × ((m : Set) → IsPerfect g (union (set_of_pair (u, v)) (set_of_pair p)) m → ⊥)

  module _ (p : ℕ × ℕ) (fits : Fits p) where
    abbrev ys : List (ℕ × ℕ)
    ys = g.ends ++ (p ∷ [])

    hy : KeepsEdges g ys
    hy = keeps-added g g.ends p (keeps-itself g is) fits.0.0 fits.0.1

    -- a perfect matching of g is one of g with the edge p
    above : (m : Set) → IsPerfect g none m → IsPerfect (with_ends g ys) none (λ e. m e && not (nat_lt (size g) e))
    above m q = record { once = λ w ww o. same w ∙ q.once w ww o; away = λ w ww o. absurd (true≢false (sym o)) }
      where
        same : (w : ℕ) → degree (with_ends g ys) (λ e. m e && not (nat_lt (size g) e)) w ≡ degree g m w
        same w =
            let a = degree-added g g.ends p (λ e. m e && not (nat_lt (size g) e)) w in
            let b = degree_congr g (λ e. m e && not (nat_lt (size g) e)) m w (λ e we. grind arith) in
            let c : bit (m (suc (size g)) && not (nat_lt (size g) (suc (size g)))) ≡ 0 = ap bit (but_not (m (suc (size g))) (nat_lt (size g) (suc (size g))) (lt-ltb (size g) (suc (size g)) (omega arith))) in
            let i = ap (λ k. k * (bit (p.0 == w) + bit (p.1 == w))) c in omega arith

    in_s : (w : ℕ) → set_of_pair (u, v) w ≡ true → s w ≡ true
    in_s w t = elim (or_cases (u == w) (v == w) t) [ inl x ↦ ap s (sym (eqb-true u w x)) ∙ su | inr x ↦ ap s (sym (eqb-true v w x)) ∙ sv ]

    out_s : (w : ℕ) → set_of_pair p w ≡ true → s w ≡ false
    out_s w t = elim (or_cases (p.0 == w) (p.1 == w) t) [ inl x ↦ ap s (sym (eqb-true p.0 w x)) ∙ fits.1 | inr x ↦ ap s (sym (eqb-true p.1 w x)) ∙ fits.2 ]

    -- u and v are not served in g with the edge p
    never : (m : Set) → IsPerfect (with_ends g ys) (set_of_pair (u, v)) m → ⊥
    never m q = go (m (suc (size g))) refl
      where
        some_end : (a b : Bool) → (a || b) ≡ true → 1 ≤ bit a + bit b
        some_end a b h = grind arith

        go : (t : Bool) → m (suc (size g)) ≡ t → ⊥
        go false e = alone m (record { once = λ w ww o. sym (same w) ∙ q.once w ww o; away = λ w ww o. sym (same w) ∙ q.away w ww o })
          where
            same : (w : ℕ) → degree (with_ends g ys) m w ≡ degree g m w
            same w = let a = degree-added g g.ends p m w in let c = ap bit e in let i = ap (λ k. k * (bit (p.0 == w) + bit (p.1 == w))) c in omega arith
        go true e = fits.3 m (record { once = once; away = away })
          where
            same : (w : ℕ) → degree (with_ends g ys) m w ≡ degree g m w + (bit (p.0 == w) + bit (p.1 == w))
            same w = let a = degree-added g g.ends p m w in let c = ap bit e in let i = ap (λ k. k * (bit (p.0 == w) + bit (p.1 == w))) c in omega arith

            once : (w : ℕ) → Within g.order w → union (set_of_pair (u, v)) (set_of_pair p) w ≡ false → degree g m w ≡ 1
            once w ww o =
                let a = or_parts (set_of_pair (u, v) w) (set_of_pair p w) o in
                let b = or_parts (p.0 == w) (p.1 == w) a.1 in
                let c = same w in let i = q.once w ww a.0 in let j = ap bit b.0 in let k = ap bit b.1 in omega arith

            away : (w : ℕ) → Within g.order w → union (set_of_pair (u, v)) (set_of_pair p) w ≡ true → degree g m w ≡ 0
            away w ww o = elim (or_cases (set_of_pair (u, v) w) (set_of_pair p w) o) [
              | inl x ↦ let c = same w in let i = q.away w ww x in omega arith
              | inr x ↦
                  let f = false_from_ne_true (set_of_pair (u, v) w) (λ t. both_ways (s w) (out_s w x) (in_s w t)) in
                  let c = same w in let i = q.once w ww f in let j = some_end (p.0 == w) (p.1 == w) x in omega arith
            ]

    bar_y : (b : Set) × IsBarrier (with_ends g ys) b × (b u ≡ true) × (b v ≡ true)
    bar_y = let m = some_perfect g is cov in equivalent_barrier (with_ends g ys) (λ e. m.0 e && not (nat_lt (size g) e)) u v hy.graph (above m.0 m.1) wu wv d never

    -- the barrier lies in s
    in_class : (w : ℕ) → Within g.order w → bar_y.0 w ≡ true → s w ≡ true
    in_class w ww t = class w ww (elim (cases_eq u w) [
      | inl e ↦ inl e
      | inr e ↦ inr (λ k.
          let a = odd_need g ys (set_of_pair (u, w)) k.0 bar_y.0 is hy k.1 (λ x wx i. in_bar x i) in
          let b = at_le_total g.order (λ x. bit (set_of_pair (u, w) x)) u wu in
          let c : bit (set_of_pair (u, w) u) ≡ 1 = ap bit (or_left (u == u) (w == u) (eq-eqb u u refl)) in
          let y = bar_y.1 in absurd (omega arith))
    ])
      where
        in_bar : (x : ℕ) → set_of_pair (u, w) x ≡ true → bar_y.0 x ≡ true
        in_bar x i = elim (or_cases (u == x) (w == x) i) [ inl j ↦ ap bar_y.0 (sym (eqb-true u x j)) ∙ bar_y.2 | inr j ↦ ap bar_y.0 (sym (eqb-true w x j)) ∙ t ]

    components_y : component_count (with_ends g ys) bar_y.0 ≡ count g.order bar_y.0
    components_y = all_components g is cov ys hy bar_y.0 bar_y.1 u wu bar_y.2

    components_g : component_count g bar_y.0 ≤ count g.order bar_y.0
    components_g = no_more_components g is cov s bar g.ends (keeps-itself g is) bar_y.0 in_class u wu bar_y.2

    full_g : component_count g bar_y.0 ≡ count g.order bar_y.0
    full_g =
        let a = coarser g.order (joined g bar_y.0) (joined (with_ends g ys) bar_y.0) (joined_equivalence g bar_y.0 is) (joined_equivalence (with_ends g ys) bar_y.0 hy.graph) (joined_more g ys bar_y.0 bar_y.0 is hy (λ w ww t. t)) in
        let b = class_count-components g bar_y.0 in
        let c = class_count-components (with_ends g ys) bar_y.0 in
        let i = components_y in let j = components_g in omega arith

    out_bar : (w : ℕ) → Within g.order w → s w ≡ false → bar_y.0 w ≡ false
    out_bar w ww o = false_from_ne_true (bar_y.0 w) (λ t. both_ways (s w) o (in_class w ww t))

    kept : joined g bar_y.0 p.0 p.1 ≡ true
    kept = elim (cases_Bool (joined g bar_y.0 p.0 p.1)) [
      | inl t ↦ t
      | inr f ↦
          let j = adjacent_joined (with_ends g ys) bar_y.0 hy.graph p.0 p.1 (and_from (not (bar_y.0 p.0) && not (bar_y.0 p.1)) _ (rw (out_bar p.0 fits.0.0 fits.1, out_bar p.1 fits.0.1 fits.2) refl) (new-joined g g.ends p)) in
          let a = strictly g.order (joined g bar_y.0) (joined (with_ends g ys) bar_y.0) (joined_equivalence g bar_y.0 is) (joined_equivalence (with_ends g ys) bar_y.0 hy.graph) (joined_more g ys bar_y.0 bar_y.0 is hy (λ w ww t. t)) p.0 p.1 fits.0.0 fits.0.1 j f in
          let b = class_count-components g bar_y.0 in
          let c = class_count-components (with_ends g ys) bar_y.0 in
          let i = components_y in let k = components_g in absurd (omega arith)
    ]

    -- the barrier of a pair that does not serve
    pub pair_barrier : PairBarrier g s u v (λ b. joined g b p.0 p.1 ≡ true)
    pair_barrier = record { b = bar_y.0; less = in_class; has_u = bar_y.2; has_v = bar_y.3; full = full_g; keeps = kept }

  apart : (e : ℕ) → Within (size g) e → first_end g e ≢ second_end g e → (s (first_end g e) && s (second_end g e)) ≡ false
  apart e we n = none_inside g is cov g.ends (keeps-itself g is) s bar u wu su e we n

  -- one for all pairs of a list
  pub pairs_barrier : (ps : List (ℕ × ℕ)) → ((p : ℕ × ℕ) → IsIn p ps → Fits p) → PairBarrier g s u v (λ b. (p : ℕ × ℕ) → IsIn p ps → joined g b p.0 p.1 ≡ true)
  pairs_barrier [] f = record { b = s; less = λ w ww t. t; has_u = su; has_v = sv; full = all_components g is cov g.ends (keeps-itself g is) s bar u wu su; keeps = λ p i. absurd i }
  pairs_barrier (q ∷ ps) f =
      let x = pairs_barrier ps (λ p i. f p (inr i)) in
      let y = pair_barrier q (f q (inl refl)) in
      record {
        b = meet x.b y.b;
        less = λ w ww t. x.less w ww (and_parts (x.b w) (y.b w) t).0;
        has_u = and_from (x.b u) (y.b u) x.has_u y.has_u;
        has_v = and_from (x.b v) (y.b v) x.has_v y.has_v;
        full = meet_full g is cov s bar g.ends (keeps-itself g is) apart x.b y.b x.less y.less x.full y.full u wu x.has_u y.has_u;
        keeps = λ p i. elim i [
          | inl e ↦ let w = f q (inl refl) in Rattle.std.proofs.Common.subst (λ r. joined g (meet x.b y.b) r.0 r.1 ≡ true) (sym e)
              (joined_more g g.ends y.b (meet x.b y.b) is (keeps-itself g is) (λ w ww t. (and_parts (x.b w) (y.b w) t).1) q.0 q.1 w.0.0 w.0.1 y.keeps)
          | inr j ↦ let w = f p (inr j) in joined_more g g.ends x.b (meet x.b y.b) is (keeps-itself g is) (λ w ww t. (and_parts (x.b w) (y.b w) t).0) p.0 p.1 w.0.0 w.0.1 (x.keeps p j)
        ];
      }

  -- further edges within the components of g without b make no fewer components
  pub same_components : (ps : List (ℕ × ℕ)) (b : Set) → ((p : ℕ × ℕ) → IsIn p ps → Within g.order p.0 × Within g.order p.1) → ((p : ℕ × ℕ) → IsIn p ps → joined g b p.0 p.1 ≡ true) → component_count (with_ends g (with_pairs g.ends ps)) b ≡ component_count g b
  same_components ps b w k =
      let h = keeps-with_pairs g (keeps-itself g is) ps w in
      let eg = joined_equivalence g b is in
      let ex = joined_equivalence (with_ends g (with_pairs g.ends ps)) b h.graph in
      let a = coarser g.order (joined g b) (joined (with_ends g (with_pairs g.ends ps)) b) eg ex (joined_more g (with_pairs g.ends ps) b b is h (λ w ww t. t)) in
      let c = coarser g.order (joined (with_ends g (with_pairs g.ends ps)) b) (joined g b) ex eg (λ c d wc wd j. joined_steps (with_ends g (with_pairs g.ends ps)) g.ends b b h.graph is (λ x y wx wy t. step x y wx wy t) c d wc j) in
      let i = class_count-components g b in
      let j = class_count-components (with_ends g (with_pairs g.ends ps)) b in omega arith
    where
      step : (x y : ℕ) → Within g.order x → Within g.order y → adjacent (with_ends g (with_pairs g.ends ps)) b x y ≡ true → joined g b x y ≡ true
      step x y wx wy t =
          let q = adjacent-edge (with_ends g (with_pairs g.ends ps)) b x y t in
          let e = each-with_pairs g (λ c d. b c ≡ false → b d ≡ false → (joined g b c d ≡ true) × (joined g b d c ≡ true)) ps
          (λ e we oc od. let j = adjacent_joined g b is (first_end g e) (second_end g e) (adjacent_from g b (first_end g e) (second_end g e) e oc od we (has_ends-own g e)) in
          (j, (joined_equivalence g b is).back (first_end g e) (second_end g e) (is e we).0 (is e we).1 j))
          (λ p i oc od. (k p i, (joined_equivalence g b is).back p.0 p.1 (w p i).0 (w p i).1 (k p i))) q.2.0 q.2.1 in
          elim (has_ends-cases (with_ends g (with_pairs g.ends ps)) x y q.2.0 q.2.2) [
            | inl z ↦ ap₂ (λ c d. joined g b c d) (sym z.0) (sym z.1) ∙ (e (ap b z.0 ∙ q.0) (ap b z.1 ∙ q.1)).0
            | inr z ↦ ap₂ (λ c d. joined g b c d) (sym z.1) (sym z.0) ∙ (e (ap b z.0 ∙ q.1) (ap b z.1 ∙ q.0)).1
          ]
