-- The number of ears of an ear decomposition.
-- Idea: an ear with k edges has k + 1 vertices, of which two are on the stage; so with each ear
-- the edges less the vertices grow by one, from one edge with two vertices to all edges with all
-- vertices that they meet.
use Rattle.tree_check.proofs.from_counting.Common.{[], ◌≡◌, ℕ, suc, ◌+◌, ◌≤◌, ◌≢◌, Bool, true, false, ◌==◌, ◌&&◌, ◌||◌, not, refl, sym, ap, ap₂, ◌∙◌, arith, eq-eqb, ne_eqb, eqb-true, inl, inr, List, ◌∷◌, length, ◌⊎◌, subst, cases_eq, cases_Bool, both_ways, true≢false, or_left, or_right, count_congr, count_of_one, times_mem, total_add, total_congr, total_ones, total_zero, Within, bit, count, total, mem, times, Set, everything, singleton}
use Rattle.barrier_kit.proofs.Common.{cut_edge}
use Rattle.ear_text.proofs.from_ear_core.AddedEars.{evens_at, new-met, odds_at}
use Rattle.ear_text.proofs.from_ear_core.EngineGraphs.{ends-met}
use Rattle.ear_text.proofs.from_ear_core.FirstStage.{one-ends}
use Rattle.ear_text.proofs.from_ear_core.NextStages.{met-within, second_ear}
use Rattle.ear_text.proofs.from_ear_core.TraceEdges.{degree_le, edges-within, ends_of-other_end, mem_odds, mem_times, met-some, some-met, trail_has, unmet}
use Rattle.ear_text.specs.from_ear_core.Common.{AreSteps, IsEarList, PlainEars, PlainStep, one, two, Follow, IsEar, last_vertex, other_end, trail, odds, is_met, with_edges}
use Rattle.graph_core.proofs.Common.{degree_congr, IsCovered, Graph, IsGraph, IsMultigraph, first_end, second_end, size}
use Rattle.theorems.specs.Ears.{ear_count}

-- how often the numbers of 1 to n stand in a list of such numbers
one-place : (n x : ℕ) → Within n x → total n (λ v. bit (x == v)) ≡ 1
one-place n x w = count_of_one n everything x w

total_times : (n : ℕ) (xs : List ℕ) → ((v : ℕ) → mem xs v ≡ true → Within n v) → total n (times xs) ≡ length xs
total_times n [] w = total_zero n
total_times n (x ∷ xs) w =
    let a = total_add n (λ v. bit (x == v)) (times xs) in
    let b = one-place n x (w x (or_left (x == x) (mem xs x) (eq-eqb x x refl))) in
    let c = total_times n xs (λ v m. w v (or_right (x == v) (mem xs v) m)) in
    a ∙ ap₂ ◌+◌ b c ∙ plus (length xs)
  where
    plus : (k : ℕ) → 1 + k ≡ suc k
    plus k = omega arith

length-trail : (g : Graph) (v : ℕ) (es : List ℕ) → length (trail g v es) ≡ length es + 1
length-trail g v [] = omega arith
length-trail g v (e ∷ es) = let a = length-trail g (other_end g e v) es in omega arith

count-everything : (n : ℕ) → count n everything ≡ n
count-everything n = total_ones n

-- no edge comes twice on a path
edge-once : (g : Graph) (v : ℕ) (es : List ℕ) → Follow g v es → ((w : ℕ) → times (trail g v es) w ≤ 1) → (e : ℕ) → times es e ≤ 1
edge-once g v [] follow once e = omega arith
edge-once g v (d ∷ es) follow once e =
    let later = edge-once g (other_end g d v) es follow.1 (λ w. let o = once w in omega arith) e in
    elim (cases_eq d e) [
      | inr i ↦ let c = ap bit (ne_eqb d e i) in omega arith
      | inl i ↦ elim (cases_eq (times es e) 0) [
        | inl z ↦ let c = ap bit (eq-eqb d e i) in omega arith
        | inr z ↦
            let own = ap bit (eq-eqb v v refl) in
            let ends = ends_of-other_end g d v v follow.0.1 in
            let on = subst (λ k. mem es k ≡ true) (sym i) (times_mem es e (omega arith)) in
            let again = mem_times (trail g (other_end g d v) es) v (trail_has g (other_end g d v) es follow.1 d v on (omega arith)) in
            let o = once v in
            absurd (omega arith)
      ]
    ]

module _ (g : Graph) (is : IsGraph g) (f : Set) (v : ℕ) (es : List ℕ) (ear : IsEar g f v es) where
  -- the edges of an ear are new, and different
  edge_at : (e : ℕ) → Within (size g) e → bit (with_edges f es e) ≡ bit (f e) + times es e
  edge_at e w = elim (cases_Bool (mem es e)) [
    | inl m ↦ grind (arith, mem_times, edge-once, bit, or_right, mem)
    | inr m ↦ elim (cases_eq (times es e) 0) [
      | inl z ↦ off (f e) (mem es e) (times es e) m z
      | inr z ↦ absurd (both_ways (mem es e) m (times_mem es e (omega arith)))
    ]
  ]
    where
      off : (a b : Bool) (k : ℕ) → b ≡ false → k ≡ 0 → bit (a || b) ≡ bit a + k
      off a b k h i = grind arith

  pub ear-edges : count (size g) (with_edges f es) ≡ count (size g) f + length es
  ear-edges =
      total_congr (size g) (λ e. bit (with_edges f es e)) (λ e. bit (f e) + times es e) edge_at
      ∙ total_add (size g) (λ e. bit (f e)) (times es)
      ∙ ap (λ k. count (size g) f + k) (total_times (size g) es (λ e m. edges-within g v es ear.follow e m))

  -- the vertices of an ear are new but for its ends, and different
  still : (w : ℕ) → is_met g f w ≡ true → is_met g (with_edges f es) w ≡ true
  still w t = let a = met-some g f w t in let b = degree_le g f (with_edges f es) w (λ e we i. or_left (f e) (mem es e) i) in some-met g (with_edges f es) w (omega arith)

  ends_of_ear : ℕ → ℕ
  ends_of_ear w = bit (v == w) + bit (last_vertex g v es == w)

  on-stage : (w : ℕ) → is_met g f w ≡ true → ends_of_ear w ≡ times (trail g v es) w
  unfolding ends_of_ear
  on-stage w t = grind (arith, evens_at, cases_eq, bit, eq-eqb, times, both_ways, times_mem)

  off-stage : (w : ℕ) → is_met g f w ≡ false → ends_of_ear w ≡ 0
  unfolding ends_of_ear
  off-stage w o = grind arith

  vertex_at : (w : ℕ) → bit (is_met g (with_edges f es) w) + ends_of_ear w ≡ bit (is_met g f w) + times (trail g v es) w
  vertex_at w = elim (cases_Bool (is_met g f w)) [
    | inl t ↦ let a = ap bit t in let b = ap bit (still w t) in let c = on-stage w t in omega arith
    | inr o ↦
        let a = ap bit o in
        let c = off-stage w o in
        let d = odds_at g f v es ear w in
        let once = ear.once w in
        elim (cases_Bool (is_met g (with_edges f es) w)) [
          | inl t ↦ let b = ap bit t in elim (new-met g f v es ear w t) [
            | inl x ↦ absurd (both_ways (is_met g f w) o x)
            | inr x ↦ let e = mem_times (trail g v es) w x in omega arith
          ]
          | inr x ↦ grind (arith, bit, unmet, degree_le, mem, or_right, mem_odds)
        ]
  ]

  trail-within : (w : ℕ) → mem (trail g v es) w ≡ true → Within g.order w
  trail-within w m =
      let a = mem_times (trail g v es) w m in
      let b = odds_at g f v es ear w in
      met-within g is (mem (odds es)) w (some-met g (mem (odds es)) w (omega arith))

  both-ends : total g.order ends_of_ear ≡ 2
  unfolding ends_of_ear
  both-ends =
      total_add g.order (λ w. bit (v == w)) (λ w. bit (last_vertex g v es == w))
      ∙ ap₂ ◌+◌ (one-place g.order v (met-within g is f v ear.start)) (one-place g.order (last_vertex g v es) (met-within g is f (last_vertex g v es) ear.end))

  pub ear-vertices : count g.order (is_met g (with_edges f es)) + 1 ≡ count g.order (is_met g f) + length es
  ear-vertices =
      let a = total_add g.order (λ w. bit (is_met g (with_edges f es) w)) ends_of_ear in
      let b = total_congr g.order (λ w. bit (is_met g (with_edges f es) w) + ends_of_ear w) (λ w. bit (is_met g f w) + times (trail g v es) w) (λ w ww. vertex_at w) in
      let c = total_add g.order (λ w. bit (is_met g f w)) (times (trail g v es)) in
      let d = total_times g.order (trail g v es) trail-within in
      let e = length-trail g v es in
      let h = both-ends in
      omega arith

-- along the steps
module _ (g : Graph) (is : IsGraph g) where
  steps-count : (f : Set) (steps : List PlainStep) → AreSteps g f steps → ear_count steps + (count (size g) f + count g.order (is_met g everything)) ≡ size g + count g.order (is_met g f)
  steps-count f [] goes =
      let a = count_congr (size g) f everything goes in
      let b = count-everything (size g) in
      let c = count_congr g.order (is_met g f) (is_met g everything) (λ w ww. ap (λ k. not (k == 0)) (degree_congr g f everything w (λ e we. goes e we))) in
      omega arith
  steps-count f (one a ∷ steps) goes = grind (arith, ear-edges, ear-vertices, steps-count (with_edges f a.edges) steps goes.2)
  steps-count f (two a b ∷ steps) goes =
      let second = second_ear g f a.begin a.edges b.begin b.edges goes.0 in
      let e = ear-edges g is f a.begin a.edges goes.0.first in
      let v = ear-vertices g is f a.begin a.edges goes.0.first in
      let d = ear-edges g is (with_edges f a.edges) b.begin b.edges second in
      let w = ear-vertices g is (with_edges f a.edges) b.begin b.edges second in
      let later = steps-count (with_edges (with_edges f a.edges) b.edges) steps goes.2 in
      omega arith

-- one edge with two vertices
module _ (g : Graph) (is : IsMultigraph g) (e : ℕ) (we : Within (size g) e) where
  one-met : (v : ℕ) → bit (is_met g (singleton e) v) ≡ bit (first_end g e == v) + bit (second_end g e == v)
  one-met v = elim (cases_Bool (is_met g (singleton e) v)) [
    | inl t ↦ let a = ap bit t in elim (one-ends g is e we v t) [
      | inl i ↦ let x = ap bit (eq-eqb (first_end g e) v i) in let y = ap bit (ne_eqb (second_end g e) v (λ j. is.no_loop e we (i ∙ sym j))) in omega arith
      | inr i ↦ let x = ap bit (eq-eqb (second_end g e) v i) in let y = ap bit (ne_eqb (first_end g e) v (λ j. is.no_loop e we (j ∙ sym i))) in omega arith
    ]
    | inr t ↦
        let a = ap bit t in
        let m = ends-met g (singleton e) e we (eq-eqb e e refl) in
        let x = ap bit (ne_eqb (first_end g e) v (λ j. both_ways (is_met g (singleton e) v) t (subst (λ k. is_met g (singleton e) k ≡ true) j m.0))) in
        let y = ap bit (ne_eqb (second_end g e) v (λ j. both_ways (is_met g (singleton e) v) t (subst (λ k. is_met g (singleton e) k ≡ true) j m.1))) in
        omega arith
  ]

  two-vertices : count g.order (is_met g (singleton e)) ≡ 2
  two-vertices =
      total_congr g.order (λ v. bit (is_met g (singleton e) v)) (λ v. bit (first_end g e == v) + bit (second_end g e == v)) (λ v w. one-met v)
      ∙ total_add g.order (λ v. bit (first_end g e == v)) (λ v. bit (second_end g e == v))
      ∙ ap₂ ◌+◌ (one-place g.order (first_end g e) (is.ends e we).0) (one-place g.order (second_end g e) (is.ends e we).1)

pub met-count : (g : Graph) (list : PlainEars) → IsMultigraph g → IsEarList g list → ear_count list.steps + count g.order (is_met g everything) ≡ size g + 1
met-count g list is ears =
    let a = steps-count g is.ends (singleton list.start) list.steps ears.steps in
    let b = one-place (size g) list.start ears.start in
    let c = two-vertices g is list.start ears.start in
    omega arith

-- in a covered graph edges meet each vertex
other-vertex : (n v : ℕ) → 2 ≤ n → (w : ℕ) × Within n w × (v ≢ w)
other-vertex n v least = elim (cases_eq v 1) [
  | inl i ↦ (2, (omega arith, omega arith), λ j. absurd (omega arith))
  | inr i ↦ (1, (omega arith, omega arith), i)
]

all-met : (g : Graph) → IsMultigraph g → IsCovered g → (v : ℕ) → Within g.order v → is_met g everything v ≡ true
all-met g is cov v w =
    let o = other-vertex g.order v cov.two in
    let e = cut_edge g (singleton v) v o.0 is.ends cov w o.1 (eq-eqb v v refl) (ne_eqb v o.0 o.2) in
    let m = ends-met g everything e.0 e.1 refl in
    elim (at (v == first_end g e.0) (v == second_end g e.0) e.2) [
      | inl i ↦ subst (λ k. is_met g everything k ≡ true) (sym (eqb-true v (first_end g e.0) i)) m.0
      | inr i ↦ subst (λ k. is_met g everything k ≡ true) (sym (eqb-true v (second_end g e.0) i)) m.1
    ]
  where
    at : (a b : Bool) → ((a && not b) || (not a && b)) ≡ true → (a ≡ true) ⊎ (b ≡ true)
    at true b h = inl refl
    at false true h = inr refl
    at false false h = absurd (true≢false (sym h))

pub covered-count : (g : Graph) (list : PlainEars) → IsMultigraph g → IsCovered g → IsEarList g list → ear_count list.steps + g.order ≡ size g + 1
covered-count g list is cov ears =
    let a = met-count g list is ears in
    let b = count_congr g.order (is_met g everything) everything (all-met g is cov) in
    let c = count-everything g.order in
    omega arith
