-- From parts to a perfect matching that leads out of a stage at two of its vertices alone: one of
-- the stage without the two, one of the rest, and the edges that join them.
use Rattle.graph_core.proofs.from_counting.Common.{◌≡◌, ◌≢◌, ℕ, ◌+◌, ◌*◌, Bool, true, false, ◌==◌, ◌||◌, refl, sym, ap, ◌∙◌, arith, eq-eqb, eqb-true, ne_eqb, ◌⊎◌, inl, inr, subst, and_parts, both_ways, cases_Bool, cases_eq, false_from_ne_true, not-true, or_cases, or_false, or_false_back, or_from, or_left, or_parts, or_right, some_true, true≢false, bit, Within, Set, complement, none, pair_set, put, union}
use Rattle.two_ears.proofs.from_barrier_kit.Common.{perfect_congr}
use Rattle.graph_core.proofs.Common.{bit_other, bit_same, degree_put, ends_le_degree, ends_of, ends_of_is, has_ends-cases, Graph, IsEnd, IsMultigraph, degree, first_end, has_ends, size, HasEnds, HasPerfect, IsPerfect}
use Rattle.ear_core.proofs.EngineGraphs.{ends-met}
use Rattle.ear_core.proofs.LoneMatchings.{end-counts, open-ends}
use Rattle.ear_core.proofs.NextStages.{met-within}
use Rattle.ear_core.proofs.Rests.{edge-away}
use Rattle.ear_core.proofs.TraceEdges.{degree_le, degree_or, unmet}
use Rattle.ear_core.specs.Common.{IsPerfectBy, IsPerfectOff, LeadsOff, Serves, adjacent_by, is_met, is_open}

-- the edge that joins two vertices off the stage
pub joining : (g : Graph) (f : Set) (a b : ℕ) → adjacent_by g (complement f) a b ≡ true → (e : ℕ) × Within (size g) e × (f e ≡ false) × HasEnds g e a b
joining g f a b t = grind (arith, some_true, size, complement, has_ends, and_parts, not-true, has_ends-cases)

-- with an edge of two vertices that a perfect matching leaves out it is one of these too
with-pair : (g : Graph) (r p : Set) (e x y : ℕ) → IsPerfect g (union r (pair_set x y)) p → Within (size g) e → Within g.order x → x ≢ y → r x ≡ false → r y ≡ false → HasEnds g e x y → IsPerfect g r (put p e true)
with-pair g r p e x y perfect we wx differ rx ry ends = record {
  once = λ w ww o.
      let s = step w in
      elim (cases_Bool (pair_set x y w)) [
        | inl t ↦ let a = perfect.away w ww (or_right (r w) (pair_set x y w) t) in let b = one-end x y w differ t in omega arith
        | inr t ↦ let a = perfect.once w ww (or_from (r w) (pair_set x y w) o t) in let b = no-end x y w t in omega arith
      ];
  away = λ w ww t.
      let s = step w in
      let a = perfect.away w ww (or_left (r w) (pair_set x y w) t) in
      let b = bit_other x w (λ i. both_ways (r w) (subst (λ k. r k ≡ false) i rx) t) in
      let c = bit_other y w (λ i. both_ways (r w) (subst (λ k. r k ≡ false) i ry) t) in omega arith;
}
  where
    out : p e ≡ false
    out = false_from_ne_true (p e) (λ t.
        let a = ends_le_degree g p e x we t in
        let b = ends_of_is g e x y ends x in
        let c = bit_same x in
        let d = perfect.away x wx (or_right (r x) (pair_set x y x) (or_left (x == x) (y == x) (eq-eqb x x refl))) in omega arith)

    step : (w : ℕ) → degree g (put p e true) w ≡ degree g p w + (bit (x == w) + bit (y == w))
    step w = let a = degree_put g p e true w we in let b = ends_of_is g e x y ends w in let c = ap (λ k. bit k * ends_of g e w) out in omega arith

    one-end : (x y w : ℕ) → x ≢ y → pair_set x y w ≡ true → bit (x == w) + bit (y == w) ≡ 1
    one-end x y w d t = grind arith

    no-end : (x y w : ℕ) → pair_set x y w ≡ false → bit (x == w) + bit (y == w) ≡ 0
    no-end x y w t = let p = or_parts (x == w) (y == w) t in let a = ap bit p.0 in let b = ap bit p.1 in omega arith

module _ (g : Graph) (is : IsMultigraph g) (f : Set) (u v : ℕ) (differ : u ≢ v) (on_u : is_met g f u ≡ true) (on_v : is_met g f v ≡ true) (q : Set) (inside : IsPerfectOff g f (pair_set u v) q) where
  wu : Within g.order u
  wu = met-within g is.ends f u on_u

  wv : Within g.order v
  wv = met-within g is.ends f v on_v

  pair-on : (w : ℕ) → pair_set u v w ≡ true → is_met g f w ≡ true
  pair-on w t = elim (or_cases (u == w) (v == w) t) [ inl i ↦ subst (λ k. is_met g f k ≡ true) (eqb-true u w i) on_u | inr i ↦ subst (λ k. is_met g f k ≡ true) (eqb-true v w i) on_v ]

  -- an edge off the stage is at no other vertex of it
  off-open : (e : ℕ) → f e ≡ false → ((w : ℕ) → IsEnd g e w → is_met g f w ≡ true → pair_set u v w ≡ true) → is_open g f u v e ≡ true
  off-open e off among = grind (arith, open-ends g f u v e)

  -- as one at u or v that leads off the stage, or joins them
  led-open : (e a b : ℕ) → f e ≡ false → HasEnds g e a b → pair_set u v a ≡ true → (is_met g f b ≡ true → pair_set u v b ≡ true) → is_open g f u v e ≡ true
  led-open e a b off h ta tb = off-open e off (λ w i on. elim (end-of e a b w h i) [
    | inl j ↦ subst (λ k. pair_set u v k ≡ true) j ta
    | inr j ↦ subst (λ k. pair_set u v k ≡ true) j (tb (subst (λ k. is_met g f k ≡ true) (sym j) on))
  ])
    where
      end-of : (e a b w : ℕ) → HasEnds g e a b → IsEnd g e w → (a ≡ w) ⊎ (b ≡ w)
      end-of e a b w h i = elim h [
        | inl x ↦ elim i [ inl y ↦ inl (sym x.0 ∙ y) | inr y ↦ inr (sym x.1 ∙ y) ]
        | inr x ↦ elim i [ inl y ↦ inr (sym x.0 ∙ y) | inr y ↦ inl (sym x.1 ∙ y) ]
      ]

  put-open : (p : Set) (d : ℕ) → ((e : ℕ) → Within (size g) e → p e ≡ true → is_open g f u v e ≡ true) → is_open g f u v d ≡ true → (e : ℕ) → Within (size g) e → put p d true e ≡ true → is_open g f u v e ≡ true
  put-open p d all own e we t = elim (cases_eq e d) [
    | inl i ↦ subst (λ k. is_open g f u v k ≡ true) (sym i) own
    | inr n ↦ all e we (kept p d e n t)
  ]
    where
      kept : (p : Set) (d e : ℕ) → e ≢ d → put p d true e ≡ true → p e ≡ true
      kept p d e n t = grind arith

  on-first : pair_set u v u ≡ true
  on-first = or_left (u == u) (v == u) (eq-eqb u u refl)

  on-second : pair_set u v v ≡ true
  on-second = or_right (u == v) (v == v) (eq-eqb v v refl)

  module _ (z r : Set) (free : (w : ℕ) → z w ≡ true → is_met g f w ≡ false) (rest : IsPerfect g (union (is_met g f) z) r) where
    apart : (e : ℕ) → Within (size g) e → q e ≡ true → r e ≡ false
    apart e we t = false_from_ne_true (r e) (λ i. edge-away g r e we i (rest.away (first_end g e) (is.ends e we).0 (or_left (is_met g f (first_end g e)) (z (first_end g e)) (ends-met g f e we (inside.part e we t)).0)))

    -- both matchings
    both : IsPerfect g (union (pair_set u v) z) (union q r)
    both = grind (arith, cases_Bool, unmet g f, degree_le g q f, inside.part, degree_or g q r, apart, free, pair-on, both_ways, or_cases, or_parts, or_left, or_right, or_from)

    rest-off : (e : ℕ) → Within (size g) e → r e ≡ true → f e ≡ false
    rest-off e we t = false_from_ne_true (f e) (λ i. edge-away g r e we t (rest.away (first_end g e) (is.ends e we).0 (or_left (is_met g f (first_end g e)) (z (first_end g e)) (ends-met g f e we i).0)))

    -- an edge on the stage is not at u or v
    inner-open : (e : ℕ) → Within (size g) e → q e ≡ true → is_open g f u v e ≡ true
    inner-open e we t = grind (arith, open-ends g f u v e, false_from_ne_true, inside.part e we, inside.away, ends_le_degree g q e, end-counts g e, is.ends e we)

    rest-open : (e : ℕ) → Within (size g) e → r e ≡ true → is_open g f u v e ≡ true
    rest-open e we t = off-open e (rest-off e we t) (λ w i on. let a = rest.away w (met-within g is.ends f w on) (or_left (is_met g f w) (z w) on) in let b = ends_le_degree g r e w we t in let c = end-counts g e w i in absurd (omega arith))

    both-open : (e : ℕ) → Within (size g) e → union q r e ≡ true → is_open g f u v e ≡ true
    both-open e we t = elim (or_cases (q e) (r e) t) [ inl i ↦ inner-open e we i | inr i ↦ rest-open e we i ]

  abbrev Whole : Type 0
  Whole = (m : Set) × IsPerfectBy g (is_open g f u v) m

  by-edge : adjacent_by g (complement f) u v ≡ true → HasPerfect g (is_met g f) → Whole
  by-edge adj rest =
      let d = joining g f u v adj in
      let r : IsPerfect g (union (is_met g f) none) rest.0 = perfect_congr g (is_met g f) (union (is_met g f) none) rest.0 (λ w ww. or_false_back (is_met g f w)) rest.1 in
      let b : IsPerfect g (union none (pair_set u v)) (union q rest.0) = perfect_congr g (union (pair_set u v) none) (union none (pair_set u v)) (union q rest.0) (λ w ww. or_false (pair_set u v w)) (both none rest.0 (λ w t. absurd (true≢false (sym t))) r) in (
        put (union q rest.0) d.0 true,
        record {
          perfect = with-pair g none (union q rest.0) d.0 u v b d.1 wu differ refl refl d.3;
          part = put-open (union q rest.0) d.0 (both-open none rest.0 (λ w t. absurd (true≢false (sym t))) r) (led-open d.0 u v d.2 d.3 on-first (λ t. on-second));
        },
      )

  by-mates : (w x : ℕ) → w ≢ x → is_met g f w ≡ false → is_met g f x ≡ false → adjacent_by g (complement f) u w ≡ true → adjacent_by g (complement f) v x ≡ true → HasPerfect g (union (is_met g f) (pair_set w x)) → Whole
  by-mates w x apart_wx off_w off_x adj_w adj_x rest =
      let d = joining g f u w adj_w in
      let e = joining g f v x adj_x in
      let b = perfect_congr g (union (pair_set u v) (pair_set w x)) (union (pair_set v x) (pair_set u w)) (union q rest.0) (λ k wk. shuffled (u == k) (v == k) (w == k) (x == k)) (both (pair_set w x) rest.0 free rest.1) in
      let c : IsPerfect g (pair_set v x) (put (union q rest.0) d.0 true) =
      with-pair g (pair_set v x) (union q rest.0) d.0 u w b d.1 wu (unlike u w on_u off_w)
      (neither v x u (λ i. differ (sym i)) (λ i. unlike u x on_u off_x (sym i))) (neither v x w (unlike v w on_v off_w) (λ i. apart_wx (sym i))) d.3 in (
        put (put (union q rest.0) d.0 true) e.0 true,
        record {
          perfect = with-pair g none (put (union q rest.0) d.0 true) e.0 v x (perfect_congr g (pair_set v x) (union none (pair_set v x)) (put (union q rest.0) d.0 true) (λ k wk. refl) c) e.1 wv (unlike v x on_v off_x) refl refl e.3;
          part = put-open (put (union q rest.0) d.0 true) e.0
              (put-open (union q rest.0) d.0 (both-open (pair_set w x) rest.0 free rest.1) (led-open d.0 u w d.2 d.3 on-first (λ t. absurd (both_ways (is_met g f w) off_w t))))
              (led-open e.0 v x e.2 e.3 on-second (λ t. absurd (both_ways (is_met g f x) off_x t)));
        },
      )
    where
      free : (k : ℕ) → pair_set w x k ≡ true → is_met g f k ≡ false
      free k t = elim (or_cases (w == k) (x == k) t) [ inl i ↦ subst (λ j. is_met g f j ≡ false) (eqb-true w k i) off_w | inr i ↦ subst (λ j. is_met g f j ≡ false) (eqb-true x k i) off_x ]

      unlike : (a b : ℕ) → is_met g f a ≡ true → is_met g f b ≡ false → a ≢ b
      unlike a b on off i = both_ways (is_met g f b) off (subst (λ j. is_met g f j ≡ true) i on)

      neither : (a b k : ℕ) → a ≢ k → b ≢ k → pair_set a b k ≡ false
      neither a b k m n = or_from (a == k) (b == k) (ne_eqb a k m) (ne_eqb b k n)

      shuffled : (a b c d : Bool) → ((a || b) || (c || d)) ≡ ((b || d) || (a || c))
      shuffled a b c d = grind arith

  whole : LeadsOff g f u v → Whole
  whole h = elim h [ inl i ↦ by-edge i.0 i.1 | inr i ↦ by-mates i.0 i.1 i.2 i.3 i.4 i.5 i.6 i.7 ]

pub lone-whole : (g : Graph) → IsMultigraph g → (f : Set) (u v : ℕ) → u ≢ v → is_met g f u ≡ true → is_met g f v ≡ true → Serves g f (pair_set u v) × LeadsOff g f u v → (m : Set) × IsPerfectBy g (is_open g f u v) m
lone-whole g is f u v differ on_u on_v parts = whole g is f u v differ on_u on_v parts.0.0 parts.0.1 parts.1
