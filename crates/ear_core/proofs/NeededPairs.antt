-- Two ears are needed where neither of them serves. If a stage with an ear is matching covered,
-- then a perfect matching of it through the first edge of the ear leaves the ear at its other end
-- too, by parity; so the stage has a perfect matching without the two ends.
use Rattle.graph_core.proofs.from_counting.Common.{◌≡◌, ◌≢◌, ℕ, ◌+◌, ◌*◌, ◌≤◌, Bool, true, false, ◌==◌, refl, sym, ap, arith, ◌&&◌, eq-eqb, ne_eqb, eqb-true, inl, inr, subst, [], ◌∷◌, ◌++◌, List, append_assoc, fun_ext, and_from, and_parts, both_ways, cases_Bool, cases_eq, or_cases, or_left, or_parts, or_right, true≢false, total_add, total_at, total_congr, Within, bit, IsIn, mem, Set, pair_set, put}
use Rattle.graph_core.proofs.Common.{degree_put, edge_at, ends_le_degree, ends_of, sum_degrees, Graph, IsGraph, degree, size}
use Rattle.ear_core.proofs.NextStages.{met-within}
use Rattle.ear_core.proofs.Searching.{before-among}
use Rattle.ear_core.proofs.Stepping.{still-met}
use Rattle.ear_core.proofs.TraceEdges.{degree_le, ends_of-other_end, trail_has, unmet}
use Rattle.ear_core.specs.Common.{FindsTwo, NoneServes, AreEach, IsNeeded, PlainEar, PlainStep, next_stage, IsEar, last_vertex, IsPerfectOf, IsPerfectOff, IsStage, is_met, with_edges}

-- the degrees of two sets of edges do not differ by one at one vertex alone
differ-once : (g : Graph) → IsGraph g → (q p : Set) (v : ℕ) → Within g.order v → ((w : ℕ) → Within g.order w → degree g q w + bit (v == w) ≡ degree g p w) → ⊥
differ-once g is q p v wv each =
    let a = sum_degrees g q is in
    let b = sum_degrees g p is in
    let c = total_add g.order (λ w. degree g q w) (λ w. bit (v == w)) in
    let d = total_congr g.order (λ w. degree g q w + bit (v == w)) (λ w. degree g p w) each in
    let e = total_at g.order (λ w. bit (v == w)) v wv (λ w ww n. ap bit (ne_eqb v w (λ i. n (sym i)))) in
    let h = ap bit (eq-eqb v v refl) in
    (omega arith)

module _ (g : Graph) (is : IsGraph g) (f : Set) (stage : IsStage g f) (v : ℕ) (es : List ℕ) (ear : IsEar g f v es) (m : Set) (perfect : IsPerfectOf g (with_edges f es) m) where
  -- the edges of the matching on the old stage
  abbrev q : Set
  q e = m e && f e

  abbrev z : ℕ
  z = last_vertex g v es

  inside : (e : ℕ) → Within (size g) e → q e ≡ true → f e ≡ true
  inside e w t = (and_parts (m e) (f e) t).1

  below : (w : ℕ) → degree g q w ≤ degree g m w
  below w = degree_le g q m w (λ e we t. (and_parts (m e) (f e) t).0)

  met-once : (w : ℕ) → Within g.order w → is_met g f w ≡ true → degree g m w ≡ 1
  met-once w ww t = perfect.once w ww (still-met g f es w t)

  -- off the ear the matching is on the old stage
  off-ear : (w : ℕ) → Within g.order w → is_met g f w ≡ true → v ≢ w → z ≢ w → degree g q w ≡ 1
  unfolding ends_of
  off-ear w ww t a b =
      let d = met-once w ww t in
      let e = edge_at g m w (omega arith) in
      let l : 1 ≤ ends_of g e.0 w = grind arith in
      elim (or_cases (f e.0) (mem es e.0) (perfect.part e.0 e.1 e.2)) [
        | inl i ↦ let x = ends_le_degree g q e.0 w e.1 (and_from (m e.0) (f e.0) e.2 i) in let y = below w in omega arith
        | inr i ↦ let x = trail_has g v es ear.follow e.0 w i l in absurd (both_ways (is_met g f w) (ear.inner w x (λ c. a (sym c)) (λ c. b (sym c))) t)
      ]

  -- an edge of the ear at v is in the matching, so no other one is
  at-start : (e : ℕ) → Within (size g) e → f e ≡ false → m e ≡ true → 1 ≤ ends_of g e v → degree g q v ≡ 0
  at-start e we off t l =
      let a : degree g (put q e true) v + bit (q e) * ends_of g e v ≡ degree g q v + bit true * ends_of g e v = degree_put g q e true v we in
      let b : bit (q e) * ends_of g e v ≡ bit false * ends_of g e v = ap (λ k. bit k * ends_of g e v) (out (m e) (f e) off) in
      let c = degree_le g (put q e true) m v (λ d wd i. grind arith) in
      let d = met-once v (met-within g is f v ear.start) ear.start in omega arith
    where
      out : (x y : Bool) → y ≡ false → (x && y) ≡ false
      out x y h = grind arith

  -- were the other end met, the stage had a perfect matching without one vertex
  with-start : (p : Set) → IsPerfectOf g f p → degree g q v ≡ 0 → degree g q z ≢ 0 → (w : ℕ) → Within g.order w → degree g q w + bit (v == w) ≡ degree g p w
  with-start p whole start end w ww = grind (arith, cases_Bool, unmet, degree_le, inside, ne_eqb, both_ways, cases_eq, degree, bit, eq-eqb, off-ear, below, met-once)

  at-end : degree g q v ≡ 0 → degree g q z ≡ 0
  at-end start = elim (cases_eq (degree g q z) 0) [
    | inl e ↦ e
    | inr d ↦
        let p = stage.allowed stage.some_edge.0 stage.some_edge.1 stage.some_edge.2 in
        absurd (differ-once g is q p.0 v (met-within g is f v ear.start) (with-start p.0 p.1 start d))
  ]

  off-ends : degree g q v ≡ 0 → IsPerfectOff g f (pair_set v z) q
  off-ends start = grind (arith, or_parts, off-ear, both_ways, eq-eqb v, eq-eqb z, or_cases, eqb-true v, eqb-true z, at-end start)

-- an ear serves, if the stage with it is matching covered
pub stage-serves : (g : Graph) → IsGraph g → (f : Set) → IsStage g f → (v : ℕ) (es : List ℕ) → IsEar g f v es → IsStage g (with_edges f es) → (q : Set) × IsPerfectOff g f (pair_set v (last_vertex g v es)) q
stage-serves g is f stage v [] ear next = absurd (true≢false (sym ear.odd))
stage-serves g is f stage v (e ∷ es) ear next =
    let here = or_left (e == e) (mem es e) (eq-eqb e e refl) in
    let w = ear.follow.0.0 in
    let m = next.allowed e w (or_right (f e) (mem (e ∷ es) e) here) in
    let a = ends_of-other_end g e v v ear.follow.0.1 in
    let b = ap bit (eq-eqb v v refl) in
    let start = at-start g is f stage v (e ∷ es) ear m.0 m.1 e w (ear.new e here) m.2 (omega arith) in
    ((λ d. m.0 d && f d), off-ends g is f stage v (e ∷ es) ear m.0 m.1 start)

module _ (g : Graph) (is : IsGraph g) (f : Set) (stage : IsStage g f) (ears : List PlainEar) (each : (a : PlainEar) → IsIn a ears → IsEar g f a.begin a.edges) (never : NoneServes g f ears) where
  not-alone : (a : PlainEar) → IsIn a ears → IsStage g (with_edges f a.edges) → ⊥
  not-alone a i next = never a i (stage-serves g is f stage a.begin a.edges (each a i) next)

  -- two ears are needed where no ear serves alone
  pub found-needed : (s : PlainStep) → FindsTwo g f ears s → IsNeeded g f s
  found-needed s found = grind (arith, before-among found.0 found.1 ears found.2, not-alone found.0, not-alone found.1)

-- steps that go on from a stage, each as P asks
pub each-go_on : (P : Set → PlainStep → Type 0) (first f new : Set) (before : List PlainStep) (s : PlainStep) → P f s → ((i : ℕ) → new i ≡ next_stage f s i) → ((others : List PlainStep) → AreEach P f others → AreEach P first (before ++ others)) →
    (others : List PlainStep) → AreEach P new others → AreEach P first ((before ++ s ∷ []) ++ others)
each-go_on P first f new before s holds same so_far others are =
    subst (λ (xs : List PlainStep). AreEach P first xs) (sym (append_assoc before (s ∷ []) others))
    (so_far (s ∷ others) (holds, subst (λ (h : Set). AreEach P h others) (fun_ext same) are))
