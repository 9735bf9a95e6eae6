-- The two ears of a step have no vertex in common where neither of them alone keeps the stage
-- matching covered. A common vertex is an end of both. A perfect matching of the next stage with
-- the edge of the first ear there misses this vertex on the old stage, and besides at most the two
-- other ends; by parity it misses exactly one more, so that one of the ears alone serves.
use Rattle.tree_check.proofs.from_counting.Common.{◌≡◌, ◌≢◌, ℕ, ◌+◌, ◌*◌, ◌≤◌, Bool, true, false, ◌==◌, ◌&&◌, refl, sym, ap, ◌∙◌, arith, eq-eqb, ne_eqb, eqb-true, subst, ◌⊎◌, inl, inr, List, [], ◌∷◌, AllByRecursion, and_from, and_parts, both_ways, cases_Bool, cases_eq, or_cases, or_comm, or_left, or_parts, or_right, total_add, total_at, total_congr, Within, bit, mem, pair_set, put, singleton, total, Set}
use Rattle.graph_core.proofs.Common.{degree_put, edge_at, ends_le_degree, ends_of, sum_degrees, Graph, IsGraph, degree, first_end, second_end, size}
use Rattle.ear_text.proofs.from_ear_core.AddedEars.{odds_at}
use Rattle.ear_text.proofs.from_ear_core.LoneMatchings.{ends-differ}
use Rattle.ear_text.proofs.from_ear_core.NextStages.{met-within}
use Rattle.ear_text.proofs.from_ear_core.ServingEars.{off-same, one-serves}
use Rattle.ear_text.proofs.from_ear_core.Stepping.{still-met}
use Rattle.ear_text.proofs.from_ear_core.TraceEdges.{degree_le, mem_odds, mem_times, trail_has, unmet}
use Rattle.ear_text.specs.from_ear_core.Common.{AreNeeded, AreSteps, IsEar, IsEarList, IsEarPair, IsNeeded, IsPerfectOf, IsPerfectOff, IsStage, IsStep, IsUnrefinable, PlainEars, PlainStep, is_met, last_vertex, next_stage, odds, one, trail, two, with_edges}
use Rattle.theorems.specs.Ears.{IsDisjoint}

-- edges q of a stage f that miss x, and all other vertices of f but y and z once
module _ (g : Graph) (is : IsGraph g) (f : Set) (stage : IsStage g f) (q : Set) (inside : (e : ℕ) → Within (size g) e → q e ≡ true → f e ≡ true)
    (x : ℕ) (mx : is_met g f x ≡ true) (missed : degree g q x ≡ 0) where
  -- what q misses of f has even size: it is what q has less than a perfect matching of f
  uneven : (miss : ℕ → ℕ) (h : ℕ) → ((u : ℕ) → Within g.order u → is_met g f u ≡ false → miss u ≡ 0) → ((u : ℕ) → Within g.order u → is_met g f u ≡ true → degree g q u + miss u ≡ 1) → total g.order miss ≡ 2 * h + 1 → ⊥
  uneven miss h off on odd =
      let p = stage.allowed stage.some_edge.0 stage.some_edge.1 stage.some_edge.2 in
      let a = sum_degrees g q is in
      let b = sum_degrees g p.0 is in
      let c = total_add g.order (λ u. degree g q u) miss in
      let d = total_congr g.order (λ u. degree g q u + miss u) (λ u. degree g p.0 u) (λ u wu. elim (cases_Bool (is_met g f u)) [
        | inl t ↦ on u wu t ∙ sym (p.1.once u wu t)
        | inr o ↦ grind (arith, unmet, degree_le)
      ]) in
      absurd (omega arith)

  off_stage : (y u : ℕ) → is_met g f y ≡ true → is_met g f u ≡ false → bit (y == u) ≡ 0
  off_stage y u my o = ap bit (ne_eqb y u (λ i. both_ways (is_met g f u) o (subst (λ k. is_met g f k ≡ true) i my)))

  one_vertex : (y : ℕ) → is_met g f y ≡ true → total g.order (λ u. bit (y == u)) ≡ 1
  one_vertex y my = total_at g.order (λ u. bit (y == u)) y (met-within g is f y my) (λ u wu n. ap bit (ne_eqb y u (λ i. n (sym i)))) ∙ ap bit (eq-eqb y y refl)

  module _ (y z : ℕ) (full : (u : ℕ) → Within g.order u → is_met g f u ≡ true → x ≢ u → y ≢ u → z ≢ u → degree g q u ≡ 1) where
    -- q is a perfect matching without x and y, if it misses y and not z
    off_two : degree g q y ≡ 0 → (y ≢ z → degree g q z ≡ 1) → IsPerfectOff g f (pair_set x y) q
    off_two empty other = grind (arith, or_parts, both_ways, eq-eqb, cases_eq, degree, or_cases, eqb-true)

    -- it does not miss x alone
    more_missed : degree g q y ≡ 1 → degree g q z ≡ 1 → ⊥
    more_missed oy oz = uneven (λ u. bit (x == u)) 0 (λ u wu o. off_stage x u mx o) on (one_vertex x mx)
      where
        on : (u : ℕ) → Within g.order u → is_met g f u ≡ true → degree g q u + bit (x == u) ≡ 1
        on u wu t = elim (cases_eq x u) [
          | inl e ↦ let a = subst (λ k. degree g q k ≡ 0) e missed in let b = ap bit (eq-eqb x u e) in omega arith
          | inr dx ↦
              let b = ap bit (ne_eqb x u dx) in
              elim (cases_eq y u) [
                | inl e ↦ let a = subst (λ k. degree g q k ≡ 1) e oy in omega arith
                | inr dy ↦ elim (cases_eq z u) [
                  | inl e ↦ let a = subst (λ k. degree g q k ≡ 1) e oz in omega arith
                  | inr dz ↦ let a = full u wu t dx dy dz in omega arith
                ]
              ]
        ]

    -- nor three vertices
    not_three : is_met g f y ≡ true → is_met g f z ≡ true → x ≢ y → x ≢ z → y ≢ z → degree g q y ≡ 0 → degree g q z ≡ 0 → ⊥
    not_three my mz xy xz yz ey ez = uneven (λ u. bit (x == u) + (bit (y == u) + bit (z == u))) 1 off on three
      where
        off : (u : ℕ) → Within g.order u → is_met g f u ≡ false → bit (x == u) + (bit (y == u) + bit (z == u)) ≡ 0
        off u wu o = let a = off_stage x u mx o in let b = off_stage y u my o in let c = off_stage z u mz o in omega arith

        three : total g.order (λ u. bit (x == u) + (bit (y == u) + bit (z == u))) ≡ 2 * 1 + 1
        three =
            let a = one_vertex x mx in
            let b = one_vertex y my in
            let c = one_vertex z mz in
            let d = total_add g.order (λ u. bit (x == u)) (λ u. bit (y == u) + bit (z == u)) in
            let e = total_add g.order (λ u. bit (y == u)) (λ u. bit (z == u)) in omega arith

        on : (u : ℕ) → Within g.order u → is_met g f u ≡ true → degree g q u + (bit (x == u) + (bit (y == u) + bit (z == u))) ≡ 1
        on u wu t = elim (cases_eq x u) [
          | inl e ↦
              let a = subst (λ k. degree g q k ≡ 0) e missed in
              let b = ap bit (eq-eqb x u e) in
              let c = ap bit (ne_eqb y u (λ i. xy (e ∙ sym i))) in
              let d = ap bit (ne_eqb z u (λ i. xz (e ∙ sym i))) in omega arith
          | inr dx ↦
              let b = ap bit (ne_eqb x u dx) in
              elim (cases_eq y u) [
                | inl e ↦
                    let a = subst (λ k. degree g q k ≡ 0) e ey in
                    let c = ap bit (eq-eqb y u e) in
                    let d = ap bit (ne_eqb z u (λ i. yz (e ∙ sym i))) in omega arith
                | inr dy ↦
                    let c = ap bit (ne_eqb y u dy) in
                    elim (cases_eq z u) [
                      | inl e ↦ let a = subst (λ k. degree g q k ≡ 0) e ez in let d = ap bit (eq-eqb z u e) in omega arith
                      | inr dz ↦ let a = full u wu t dx dy dz in let d = ap bit (ne_eqb z u dz) in omega arith
                    ]
              ]
        ]

-- so it is a perfect matching of f without x and y, or without x and z
one_missed : (g : Graph) → IsGraph g → (f : Set) → IsStage g f → (q : Set) → ((e : ℕ) → Within (size g) e → q e ≡ true → f e ≡ true) → (x y z : ℕ) → is_met g f x ≡ true → is_met g f y ≡ true → is_met g f z ≡ true → x ≢ y → x ≢ z →
    degree g q x ≡ 0 → degree g q y ≤ 1 → degree g q z ≤ 1 → ((u : ℕ) → Within g.order u → is_met g f u ≡ true → x ≢ u → y ≢ u → z ≢ u → degree g q u ≡ 1) →
    (IsPerfectOff g f (pair_set x y) q) ⊎ (IsPerfectOff g f (pair_set x z) q)
one_missed g is f stage q inside x y z mx my mz xy xz missed ly lz full = elim (cases_eq (degree g q y) 0) [
  | inl ey ↦ elim (cases_eq (degree g q z) 0) [
    | inl ez ↦ elim (cases_eq y z) [
      | inl same ↦ inl (off_two g is f stage q inside x mx missed y z full ey (λ n. absurd (n same)))
      | inr yz ↦ absurd (not_three g is f stage q inside x mx missed y z full my mz xy xz yz ey ez)
    ]
    | inr nz ↦ inl (off_two g is f stage q inside x mx missed y z full ey (λ n. only (degree g q z) lz nz))
  ]
  | inr ny ↦ elim (cases_eq (degree g q z) 0) [
    | inl ez ↦ inr (off_two g is f stage q inside x mx missed z y (λ u wu t dx dz dy. full u wu t dx dy dz) ez (λ n. only (degree g q y) ly ny))
    | inr nz ↦ absurd (more_missed g is f stage q inside x mx missed y z full (only (degree g q y) ly ny) (only (degree g q z) lz nz))
  ]
]
  where
    only : (k : ℕ) → k ≤ 1 → k ≢ 0 → k ≡ 1
    only k l n = omega arith

-- a vertex of an ear that the stage meets is one of its ends, and this is the other
record HasOtherEnd (g : Graph) (f : Set) (v : ℕ) (es : List ℕ) (x : ℕ) : Type 0 where
  end : ℕ
  met : is_met g f end ≡ true
  apart : x ≢ end
  ends : (u : ℕ) → pair_set v (last_vertex g v es) u ≡ pair_set x end u

the_other : (g : Graph) (f : Set) (v : ℕ) (es : List ℕ) (x : ℕ) → IsEar g f v es → mem (trail g v es) x ≡ true → is_met g f x ≡ true → HasOtherEnd g f v es x
the_other g f v es x ear on mx = grind (arith, ends-differ, cases_eq, or_comm, both_ways)

-- an end of an edge counts
end_counted : (g : Graph) (e x y : ℕ) → ((first_end g e ≡ x) × (second_end g e ≡ y)) ⊎ ((first_end g e ≡ y) × (second_end g e ≡ x)) → 1 ≤ ends_of g e x
unfolding ends_of
end_counted g e x y h = grind arith

-- two ears, the next stage, and a perfect matching of it with an edge of the first ear at a common
-- vertex
module _ (g : Graph) (is : IsGraph g) (f : Set) (v : ℕ) (es : List ℕ) (w : ℕ) (ds : List ℕ) (pair : IsEarPair g f v es w ds) (m : Set) (perfect : IsPerfectOf g (with_edges (with_edges f es) ds) m) where
  -- the edges of the matching on the old stage
  abbrev old : Set
  old e = m e && f e

  old_inside : (e : ℕ) → Within (size g) e → old e ≡ true → f e ≡ true
  old_inside e we t = (and_parts (m e) (f e) t).1

  below : (u : ℕ) → degree g old u ≤ degree g m u
  below u = degree_le g old m u (λ e we t. (and_parts (m e) (f e) t).0)

  met_once : (u : ℕ) → Within g.order u → is_met g f u ≡ true → degree g m u ≡ 1
  met_once u wu t = perfect.once u wu (still-met g (with_edges f es) ds u (still-met g f es u t))

  -- an edge of an ear has no end on the stage but those of the ear
  not_on : (s : ℕ) (cs : List ℕ) → IsEar g f s cs → (e u : ℕ) → mem cs e ≡ true → 1 ≤ ends_of g e u → is_met g f u ≡ true → pair_set s (last_vertex g s cs) u ≡ false → ⊥
  not_on s cs ear e u i l t o = grind (arith, or_parts, both_ways, trail_has, eq-eqb)

  -- off the ears the matching is on the old stage
  off_ears : (u : ℕ) → Within g.order u → is_met g f u ≡ true → pair_set v (last_vertex g v es) u ≡ false → pair_set w (last_vertex g w ds) u ≡ false → degree g old u ≡ 1
  off_ears u wu t a b =
      let d = met_once u wu t in
      let e = edge_at g m u (omega arith) in
      let l = end_counted g e.0 u e.3.0 e.3.1 in
      elim (or_cases (with_edges f es e.0) (mem ds e.0) (perfect.part e.0 e.1 e.2)) [
        | inr i ↦ absurd (not_on w ds pair.second e.0 u i l t b)
        | inl h ↦ elim (or_cases (f e.0) (mem es e.0) h) [
          | inr i ↦ absurd (not_on v es pair.first e.0 u i l t a)
          | inl i ↦ let k = ends_le_degree g old e.0 u e.1 (and_from (m e.0) (f e.0) e.2 i) in let n = below u in omega arith
        ]
      ]

  -- where the matching has an edge off the stage, it has none on the stage
  at_edge : (e x : ℕ) → Within (size g) e → f e ≡ false → m e ≡ true → 1 ≤ ends_of g e x → is_met g f x ≡ true → degree g old x ≡ 0
  at_edge e x we off t l mx =
      let a : degree g (put old e true) x + bit (old e) * ends_of g e x ≡ degree g old x + bit true * ends_of g e x = degree_put g old e true x we in
      let b : bit (old e) * ends_of g e x ≡ bit false * ends_of g e x = ap (λ k. bit k * ends_of g e x) (out (m e) (f e) off) in
      let c = degree_le g (put old e true) m x (λ d wd i. grind arith) in
      let d = met_once x (met-within g is f x mx) mx in omega arith
    where
      out : (p q : Bool) → q ≡ false → (p && q) ≡ false
      out p q h = grind arith

  serves : IsStage g f → (e x : ℕ) → Within (size g) e → f e ≡ false → m e ≡ true → 1 ≤ ends_of g e x → is_met g f x ≡ true →
      (i : HasOtherEnd g f v es x) (j : HasOtherEnd g f w ds x) → (IsPerfectOff g f (pair_set v (last_vertex g v es)) old) ⊎ (IsPerfectOff g f (pair_set w (last_vertex g w ds)) old)
  serves stage e x we off t l mx i j =
      let low : (u : ℕ) → is_met g f u ≡ true → degree g old u ≤ 1 = λ u mu. let a = below u in let b = met_once u (met-within g is f u mu) mu in omega arith in
      elim (one_missed g is f stage old old_inside x i.end j.end mx i.met j.met i.apart j.apart (at_edge e x we off t l mx) (low i.end i.met) (low j.end j.met)
      (λ u wu mu dx dy dz. off_ears u wu mu (i.ends u ∙ neither x i.end u dx dy) (j.ends u ∙ neither x j.end u dx dz))) [
        | inl k ↦ inl (off-same g f (pair_set x i.end) (pair_set v (last_vertex g v es)) old (λ u. sym (i.ends u)) k)
        | inr k ↦ inr (off-same g f (pair_set x j.end) (pair_set w (last_vertex g w ds)) old (λ u. sym (j.ends u)) k)
      ]
    where
      neither : (a b u : ℕ) → a ≢ u → b ≢ u → pair_set a b u ≡ false
      neither a b u p q = rw (ne_eqb a u p, ne_eqb b u q) refl

-- the two ears of a step that is needed have no common vertex
pub needed_disjoint : (g : Graph) → IsGraph g → (f : Set) (s : PlainStep) → IsStage g f → IsStep g f s → IsStage g (next_stage f s) → IsNeeded g f s → IsDisjoint g s
needed_disjoint g is f (one a) stage step next needed = tt
needed_disjoint g is f (two a b) stage pair next needed = λ x on_a on_b.
    let mx = pair.vertices x on_a on_b in
    let i = the_other g f a.begin a.edges x pair.first on_a mx in
    let j = the_other g f b.begin b.edges x pair.second on_b mx in
    let o = odds_at g f a.begin a.edges pair.first x in
    let n = mem_times (trail g a.begin a.edges) x on_a in
    let e = edge_at g (mem (odds a.edges)) x (omega arith) in
    let l = end_counted g e.0 x e.3.0 e.3.1 in
    let k = mem_odds a.edges e.0 e.2 in
    let m = next.allowed e.0 e.1 (or_left (with_edges f a.edges e.0) (mem b.edges e.0) (or_right (f e.0) (mem a.edges e.0) k)) in
    elim (serves g is f a.begin a.edges b.begin b.edges pair m.0 m.1 stage e.0 x e.1 (pair.first.new e.0 k) m.2 l mx i j) [
      | inl p ↦ needed.0 (one-serves g is f a.begin a.edges stage pair.first (λ e. m.0 e && f e) p)
      | inr p ↦ needed.1 (one-serves g is f b.begin b.edges stage pair.second (λ e. m.0 e && f e) p)
    ]

pub steps_disjoint : (g : Graph) → IsGraph g → (f : Set) (steps : List PlainStep) → IsStage g f → AreSteps g f steps → AreNeeded g f steps → AllByRecursion (IsDisjoint g) steps
steps_disjoint g is f [] stage go needed = tt
steps_disjoint g is f (s ∷ steps) stage go needed = (needed_disjoint g is f s stage go.0 go.1 needed.0, steps_disjoint g is (next_stage f s) steps go.1 go.2 needed.1)

pub list_disjoint : (g : Graph) (list : PlainEars) → IsGraph g → IsEarList g list → IsUnrefinable g list → AllByRecursion (IsDisjoint g) list.steps
list_disjoint g list is ears needed = steps_disjoint g is (singleton list.start) list.steps ears.first_stage ears.steps needed
