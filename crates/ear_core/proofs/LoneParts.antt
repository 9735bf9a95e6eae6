-- The parts of a perfect matching that leads out of a stage at two of its vertices alone: what it
-- has of the stage is a perfect matching without the two, and what it has off the stage and apart
-- from their mates is one of the rest.
use Rattle.graph_core.proofs.from_counting.Common.{◌≡◌, ◌≢◌, ℕ, ◌≤◌, true, false, ◌==◌, ◌&&◌, ◌||◌, not, refl, sym, ap, ◌∙◌, arith, eq-eqb, eqb-true, inl, inr, subst, and_from, and_parts, both_ways, cases_Bool, cases_eq, false_from_ne_true, not-true, or_cases, or_from, or_left, or_right, true_some, Within, Set, complement, mem, none, pair_set, union}
use Rattle.two_ears.proofs.from_barrier_kit.Common.{perfect_congr}
use Rattle.graph_core.proofs.Common.{edge_at, ends_le_degree, ends_of, has_ends-from, Graph, IsEnd, IsGraph, IsMultigraph, degree, first_end, has_ends, second_end, size, HasEnds, HasPerfect, IsPerfect}
use Rattle.two_ears.specs.from_match_core.Common.{MatchingValue, edges_of, has_end_in, left_over}
use Rattle.ear_core.proofs.EngineGraphs.{ends-met}
use Rattle.ear_core.proofs.LoneLeads.{leads-off, off-ends}
use Rattle.ear_core.proofs.LoneMatchings.{end-counts}
use Rattle.ear_core.proofs.Mates.{one-at, row-is}
use Rattle.ear_core.proofs.NextStages.{met-within}
use Rattle.ear_core.proofs.TraceEdges.{degree_le}
use Rattle.ear_core.specs.Common.{IsPerfectBy, IsPerfectOff, IsPerfectRows, KeepsMates, LeadsOff, Serves, adjacent_by, is_met, is_open, other_end, row_edge}

-- an edge of a and b is at both
at-first : (g : Graph) (e a b : ℕ) → HasEnds g e a b → (first_end g e == a || second_end g e == a) ≡ true
at-first g e a b h = grind (arith, eq-eqb, or_left, or_right)

turned : (g : Graph) (e a b : ℕ) → HasEnds g e a b → HasEnds g e b a
turned g e a b h = grind arith

second : (g : Graph) (d p q r : ℕ) → HasEnds g d p q → HasEnds g d p r → q ≡ r
second g d p q r x y = grind arith

-- what a perfect matching has off a set that holds both ends of each of its edges or none
pub closed-perfect : (g : Graph) → IsGraph g → (m out : Set) → IsPerfect g none m → ((k a b : ℕ) → Within (size g) k → m k ≡ true → HasEnds g k a b → Within g.order a → out a ≡ true → out b ≡ true) → IsPerfect g out (left_over g out m)
closed-perfect g is m out perfect closed = record {
  once = λ w ww o.
      let k = edge_at g m w (let a = perfect.once w ww refl in omega arith) in
      let b : out k.3.0 ≡ false = false_from_ne_true (out k.3.0) (λ t. both_ways (out w) o (closed k.0 k.3.0 w k.1 k.2 (turned g k.0 w k.3.0 k.3.1) (end-within k.0 w k.3.0 k.1 k.3.1) t)) in
      let c = ends_le_degree g (left_over g out m) k.0 w k.1 (and_from (m k.0) (not (has_end_in g out k.0)) k.2 (ap not (no-end k.0 w k.3.0 k.3.1 o b))) in
      let d = end-counts g k.0 w (at-end k.0 w k.3.0 k.3.1) in
      let x = perfect.once w ww refl in
      let y = degree_le g (left_over g out m) m w (λ i wi t. (and_parts (m i) (not (has_end_in g out i)) t).0) in omega arith;
  away = λ w ww t. elim (cases_eq (degree g (left_over g out m) w) 0) [
    | inl z ↦ z
    | inr n ↦
        let k = edge_at g (left_over g out m) w (omega arith) in
        let p = and_parts (m k.0) (not (has_end_in g out k.0)) k.2 in
        absurd (both_ways (has_end_in g out k.0) (not-true (has_end_in g out k.0) p.1) (some-end k.0 w k.3.0 k.3.1 t))
  ];
}
  where
    end-within : (e a b : ℕ) → Within (size g) e → HasEnds g e a b → Within g.order b
    end-within e a b we h = let x = is e we in grind arith

    at-end : (e w y : ℕ) → HasEnds g e w y → IsEnd g e w
    at-end e w y h = grind arith

    no-end : (e a b : ℕ) → HasEnds g e a b → out a ≡ false → out b ≡ false → has_end_in g out e ≡ false
    no-end e a b h p q = elim h [ inl i ↦ or_from (out (first_end g e)) (out (second_end g e)) (ap out i.0 ∙ p) (ap out i.1 ∙ q) | inr i ↦ or_from (out (first_end g e)) (out (second_end g e)) (ap out i.0 ∙ q) (ap out i.1 ∙ p) ]

    some-end : (e a b : ℕ) → HasEnds g e a b → out a ≡ true → has_end_in g out e ≡ true
    some-end e a b h t = elim h [ inl i ↦ or_left (out (first_end g e)) (out (second_end g e)) (ap out i.0 ∙ t) | inr i ↦ or_right (out (first_end g e)) (out (second_end g e)) (ap out i.1 ∙ t) ]

-- so the rest off a stage that holds the mates of its vertices has a perfect matching
pub kept-rest : (g : Graph) → IsGraph g → (f : Set) (n : MatchingValue) → IsPerfectRows g n → KeepsMates g (row_edge n.rows) (is_met g f) → HasPerfect g (is_met g f)
kept-rest g is f n rows keeps = (left_over g (is_met g f) (mem (edges_of n)), closed-perfect g is (mem (edges_of n)) (is_met g f) rows.perfect closed)
  where
    other : (k a b : ℕ) → HasEnds g k a b → other_end g k a ≡ b
    other k a b h = grind arith

    closed : (k a b : ℕ) → Within (size g) k → mem (edges_of n) k ≡ true → HasEnds g k a b → Within g.order a → is_met g f a ≡ true → is_met g f b ≡ true
    closed k a b wk mk h wa t =
        let same = row-is g is n rows a k wa wk mk (at-first g k a b h) in
        subst (λ w. is_met g f w ≡ true) (ap (λ d. other_end g d a) (sym same) ∙ other k a b h) (keeps a wa t)

module _ (g : Graph) (is : IsMultigraph g) (f : Set) (u v : ℕ) (differ : u ≢ v) (on_u : is_met g f u ≡ true) (on_v : is_met g f v ≡ true) (m : Set) (by : IsPerfectBy g (is_open g f u v) m) where
  -- the edge of m at w, with its other end
  at : (w : ℕ) → Within g.order w → (e : ℕ) × Within (size g) e × (m e ≡ true) × ((y : ℕ) × HasEnds g e w y)
  at w ww = edge_at g m w (let a = by.perfect.once w ww refl in omega arith)

  -- the edge at w is one alone
  alone : (w d e y z : ℕ) → Within g.order w → Within (size g) d → Within (size g) e → m d ≡ true → m e ≡ true → HasEnds g d w y → HasEnds g e w z → d ≡ e
  alone w d e y z ww wd we md me hd he = one-at g m by.perfect w d e ww wd we md me (at-first g d w y hd) (at-first g e w z he)

  counts : (e w y : ℕ) → HasEnds g e w y → 1 ≤ ends_of g e w
  counts e w y h = end-counts g e w (grind arith)

  -- an edge off the stage at a vertex of it is at u or v
  led : (e w y : ℕ) → Within (size g) e → m e ≡ true → f e ≡ false → HasEnds g e w y → is_met g f w ≡ true → pair_set u v w ≡ true
  led e w y we me off h on = off-ends g is.ends f u v e w (by.part e we me) (at-first g e w y h) off on

  -- an edge at u or v is off the stage
  off : (e w y : ℕ) → Within (size g) e → m e ≡ true → HasEnds g e w y → pair_set u v w ≡ true → f e ≡ false
  off e w y we me h t = leads-off g is.ends f u v e w (by.part e we me) (at-first g e w y h) t

  -- an edge of the stage meets it
  stays : (e w y : ℕ) → Within (size g) e → f e ≡ true → HasEnds g e w y → is_met g f w ≡ true
  stays e w y we on h = let a = ends-met g f e we on in elim h [ inl i ↦ subst (λ k. is_met g f k ≡ true) i.0 a.0 | inr i ↦ subst (λ k. is_met g f k ≡ true) i.1 a.1 ]

  abbrev inner : Set
  inner e = m e && f e

  below : (w : ℕ) → degree g inner w ≤ degree g m w
  below w = degree_le g inner m w (λ e we t. (and_parts (m e) (f e) t).0)

  inner-perfect : IsPerfectOff g f (pair_set u v) inner
  inner-perfect = record {
    part = λ e we t. (and_parts (m e) (f e) t).1;
    once = λ w ww on out.
        let e = at w ww in
        let a = below w in
        let b = by.perfect.once w ww refl in
        elim (cases_Bool (f e.0)) [
          | inl t ↦ let c = ends_le_degree g inner e.0 w e.1 (and_from (m e.0) (f e.0) e.2 t) in let d = counts e.0 w e.3.0 e.3.1 in omega arith
          | inr t ↦ absurd (both_ways (pair_set u v w) out (led e.0 w e.3.0 e.1 e.2 t e.3.1 on))
        ];
    away = λ w ww t. elim (cases_eq (degree g inner w) 0) [
      | inl z ↦ z
      | inr n ↦
          let e = edge_at g inner w (omega arith) in
          let p = and_parts (m e.0) (f e.0) e.2 in
          absurd (both_ways (f e.0) (off e.0 w e.3.0 e.1 p.0 e.3.1 t) p.1)
    ];
  }

  wu : Within g.order u
  wu = met-within g is.ends f u on_u

  wv : Within g.order v
  wv = met-within g is.ends f v on_v

  module _ (d y : ℕ) (wd : Within (size g) d) (md : m d ≡ true) (hd : HasEnds g d u y) (e z : ℕ) (we : Within (size g) e) (me : m e ≡ true) (he : HasEnds g e v z) where
    off-d : f d ≡ false
    off-d = off d u y wd md hd (or_left (u == u) (v == u) (eq-eqb u u refl))

    off-e : f e ≡ false
    off-e = off e v z we me he (or_right (u == v) (v == v) (eq-eqb v v refl))

    wy : Within g.order y
    wy = let a = is.ends d wd in grind arith

    wz : Within g.order z
    wz = let a = is.ends e we in grind arith

    abbrev out : Set
    out = union (is_met g f) (pair_set y z)

    -- it holds both ends of an edge of m or none
    closed : (k a b : ℕ) → Within (size g) k → m k ≡ true → HasEnds g k a b → Within g.order a → out a ≡ true → out b ≡ true
    closed k a b wk mk h wa t = elim (or_cases (is_met g f a) (pair_set y z a) t) [
      | inl on ↦ elim (cases_Bool (f k)) [
        | inl i ↦ or_left (is_met g f b) (pair_set y z b) (stays k b a wk i (turned g k a b h))
        | inr i ↦ elim (or_cases (u == a) (v == a) (led k a b wk mk i h on)) [
          | inl j ↦ or_right (is_met g f b) (pair_set y z b) (or_left (y == b) (z == b) (eq-eqb y b (other u y a b d k (eqb-true u a j) wu wk mk wd md hd h)))
          | inr j ↦ or_right (is_met g f b) (pair_set y z b) (or_right (y == b) (z == b) (eq-eqb z b (other v z a b e k (eqb-true v a j) wv wk mk we me he h)))
        ]
      ]
      | inr i ↦ elim (or_cases (y == a) (z == a) i) [
        | inl j ↦ or_left (is_met g f b) (pair_set y z b) (subst (λ w. is_met g f w ≡ true) (other y u a b d k (eqb-true y a j) wy wk mk wd md (turned g d u y hd) h) on_u)
        | inr j ↦ or_left (is_met g f b) (pair_set y z b) (subst (λ w. is_met g f w ≡ true) (other z v a b e k (eqb-true z a j) wz wk mk we me (turned g e v z he) h) on_v)
      ]
    ]
      where
        other : (p q a b d k : ℕ) → p ≡ a → Within g.order p → Within (size g) k → m k ≡ true → Within (size g) d → m d ≡ true → HasEnds g d p q → HasEnds g k a b → q ≡ b
        other p q a b d k same wp wk mk wd md hd hk =
            let hp : HasEnds g k p b = subst (λ w. HasEnds g k w b) (sym same) hk in
            let one = alone p d k q b wp wd wk md mk hd hp in
            second g d p q b hd (subst (λ i. HasEnds g i p b) (sym one) hp)

    rest-perfect : IsPerfect g out (left_over g out m)
    rest-perfect = closed-perfect g is.ends m out by.perfect closed

    joined : (e a b : ℕ) → Within (size g) e → f e ≡ false → HasEnds g e a b → adjacent_by g (complement f) a b ≡ true
    joined e a b we o h = true_some (size g) (λ i. complement f i && has_ends g a b i) e we (and_from (not (f e)) (has_ends g a b e) (ap not o) (has_ends-from g a b e h))

    -- a mate on the stage is the other one of the two
    no-loop : (k a b : ℕ) → Within (size g) k → HasEnds g k a b → a ≢ b
    no-loop k a b wk h same = is.no_loop k wk (grind arith)

    -- an edge of both is that of u and v
    one-edge : d ≡ e → (y ≡ v) × (z ≡ u)
    one-edge same = both (subst (λ k. HasEnds g k v z) (sym same) he)
      where
        both : HasEnds g d v z → (y ≡ v) × (z ≡ u)
        both h = grind arith

    mate-on-u : is_met g f y ≡ true → (y ≡ v) × (z ≡ u)
    mate-on-u t = elim (or_cases (u == y) (v == y) (led d y u wd md off-d (turned g d u y hd) t)) [
      | inl i ↦ absurd (no-loop d u y wd hd (eqb-true u y i))
      | inr i ↦ let same = eqb-true v y i in one-edge (alone v d e u z wv wd we md me (subst (λ w. HasEnds g d w u) (sym same) (turned g d u y hd)) he)
    ]

    mate-on-v : is_met g f z ≡ true → (y ≡ v) × (z ≡ u)
    mate-on-v t = elim (or_cases (u == z) (v == z) (led e z v we me off-e (turned g e v z he) t)) [
      | inl i ↦ let same = eqb-true u z i in one-edge (alone u d e y v wu wd we md me hd (subst (λ w. HasEnds g e w v) (sym same) (turned g e v z he)))
      | inr i ↦ absurd (no-loop e v z we he (eqb-true v z i))
    ]

    apart : is_met g f y ≡ false → y ≢ z
    apart o same =
        let p = one-edge (alone y d e u v wy wd we md me (turned g d u y hd) (subst (λ w. HasEnds g e w v) (sym same) (turned g e v z he))) in
        both_ways (is_met g f y) o (subst (λ w. is_met g f w ≡ true) (sym p.0) on_v)

    leads : LeadsOff g f u v
    leads = elim (cases_Bool (is_met g f y)) [
      | inl t ↦ let p = mate-on-u t in inl (
        subst (λ w. adjacent_by g (complement f) u w ≡ true) p.0 (joined d u y wd off-d hd),
        (left_over g out m, perfect_congr g out (is_met g f) (left_over g out m) (λ w ww. only p.0 p.1 w) rest-perfect),
      )
      | inr o ↦ inr (
        y,
        z,
        apart o,
        o,
        false_from_ne_true (is_met g f z) (λ t. both_ways (is_met g f y) o (subst (λ w. is_met g f w ≡ true) (sym (mate-on-v t).0) on_v)),
        joined d u y wd off-d hd,
        joined e v z we off-e he,
        (left_over g out m, rest-perfect),
      )
    ]
      where
        only : y ≡ v → z ≡ u → (w : ℕ) → out w ≡ is_met g f w
        only p q w = grind (arith, or_cases, cases_Bool, eqb-true, or_left, both_ways)

  parts : Serves g f (pair_set u v) × LeadsOff g f u v
  parts =
      let d = at u wu in
      let e = at v wv in
      ((inner, inner-perfect), leads d.0 d.3.0 d.1 d.2 d.3.1 e.0 e.3.0 e.1 e.2 e.3.1)

pub lone-parts : (g : Graph) → IsMultigraph g → (f : Set) (u v : ℕ) → u ≢ v → is_met g f u ≡ true → is_met g f v ≡ true → (m : Set) → IsPerfectBy g (is_open g f u v) m → Serves g f (pair_set u v) × LeadsOff g f u v
lone-parts g is f u v differ on_u on_v m by = parts g is f u v differ on_u on_v m by
