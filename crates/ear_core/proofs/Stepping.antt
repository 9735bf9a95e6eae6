-- The builder step by step. An edge off the stage leads out of it as long as one is left; a step
-- of ears that hold the mates of their vertices keeps this of the stage; and steps that go on
-- from a stage make a list with those before.
use Rattle.graph_core.proofs.from_counting.Common.{◌≡◌, ℕ, ◌+◌, ◌≤◌, Bool, true, false, refl, sym, ap, ◌∙◌, arith, ◌&&◌, ◌||◌, not, eq-eqb, inl, inr, subst, [], ◌∷◌, ◌++◌, List, Result, IfOk, append_assoc, fun_ext, true_from_ne_false, cases_Bool, both_ways, true≢false, false_from_ne_true, or_left, or_right, or_cases, count_complement, AllByRecursion, count, Within, mem, IsIn, Set, none, singleton, complement}
use Rattle.two_ears.proofs.from_barrier_kit.Common.{cut_edge}
use Rattle.graph_core.proofs.Common.{IsCovered, Graph, size, first_end, second_end, IsGraph, IsMultigraph, HasPerfect, Allowed}
use Rattle.two_ears.specs.from_match_core.Common.{MatchingValue, edges_of}
use Rattle.ear_core.specs.Common.{mate, IsPerfectRows, row_edge, KeepsMates, IsMatedEar, AreMatedEars, AreCandidates, IsChosen, PlainEar, PlainStep, one, two, next_stage, IsStep, AreSteps, IsSingle, FitsStep, PlainEars, FitsEars, HasEdges, IsEarList, trail, IsEar, odds, is_met, IsStage, with_edges}
use Rattle.ear_core.proofs.EngineGraphs.{ends-met}
use Rattle.ear_core.proofs.FirstStage.{one-ends, step-adds}
use Rattle.ear_core.proofs.TraceEdges.{mem_times, mem_odds, degree_le, met-some, some-met}
use Rattle.ear_core.proofs.AddedEars.{odds_at, new-met}
use Rattle.ear_core.proofs.Mates.{row-found, row-is, rows-mates}
use Rattle.ear_core.proofs.NextStages.{second_ear}
use Rattle.ear_core.proofs.Rounds.{mated-candidates}
use Rattle.ear_core.proofs.Searching.{ear-fits}

-- an edge leads out of the stage
abbrev leads_out_of : Graph → Set → Set
leads_out_of g f e = not (f e) && (is_met g f (first_end g e) || is_met g f (second_end g e))

-- where no edge leads out, all edges are on the stage
pub all-on : (g : Graph) → IsGraph g → IsCovered g → (f : Set) → IsStage g f → ((e : ℕ) → Within (size g) e → (not (f e) && (is_met g f (first_end g e) || is_met g f (second_end g e))) ≡ false) → (e : ℕ) → Within (size g) e → f e ≡ true
all-on g is cov f stage nothing e w = true_from_ne_false (f e) (λ off. elim (cases_Bool (is_met g f (first_end g e))) [
  | inl t ↦ both_ways (leads_out_of g f e) (nothing e w) (out (f e) (is_met g f (first_end g e)) (is_met g f (second_end g e)) off t)
  | inr t ↦
      let s = stage.some_edge in
      let h = (ends-met g f s.0 s.1 s.2).0 in
      let c = cut_edge g (is_met g f) (first_end g s.0) (first_end g e) is cov (is s.0 s.1).0 (is e w).0 h t in
      (grind (arith, true≢false, both_ways, out, false_from_ne_true, ends-met, out_back))
])
  where
    out : (x y z : Bool) → x ≡ false → y ≡ true → (not x && (y || z)) ≡ true
    out x y z p q = grind arith

    out_back : (x y z : Bool) → x ≡ false → z ≡ true → (not x && (y || z)) ≡ true
    out_back x y z p q = grind arith

trail-met : (g : Graph) (f : Set) (v : ℕ) (es : List ℕ) → IsEar g f v es → (w : ℕ) → mem (trail g v es) w ≡ true → is_met g (with_edges f es) w ≡ true
trail-met g f v es ear w h = grind (arith, odds_at g f v es ear w, mem_times (trail g v es) w h, degree_le g (mem (odds es)) (with_edges f es) w, or_right, mem_odds es, some-met g (with_edges f es) w)

-- a vertex of f is one of the new stage
pub still-met : (g : Graph) (f : Set) (es : List ℕ) (w : ℕ) → is_met g f w ≡ true → is_met g (with_edges f es) w ≡ true
still-met g f es w t = grind (arith, met-some g f w t, degree_le g f (with_edges f es) w, or_left, some-met g (with_edges f es) w)

pub ear-keeps : (g : Graph) (f : Set) (n : ℕ → ℕ) (v : ℕ) (es : List ℕ) → IsEar g f v es → ((w : ℕ) → mem (trail g v es) w ≡ true → is_met g f w ≡ false → mem (trail g v es) (mate g n w) ≡ true) → KeepsMates g n (is_met g f) → KeepsMates g n (is_met g (with_edges f es))
ear-keeps g f n v es ear by_n keeps w ww t = elim (cases_Bool (is_met g f w)) [
  | inl x ↦ still-met g f es (mate g n w) (keeps w ww x)
  | inr x ↦ grind (arith, new-met g f v es ear w t, both_ways (is_met g f w) x, trail-met g f v es ear (mate g n w))
]

-- a step of mated ears keeps the mates
pub step-keeps : (g : Graph) (f : Set) (m n : ℕ → ℕ) (ears : List PlainEar) → ((a : PlainEar) → IsIn a ears → IsMatedEar g f m n a) → (s : PlainStep) → IsChosen ears s → IsStep g f s → KeepsMates g n (is_met g f) → KeepsMates g n (is_met g (next_stage f s))
step-keeps g f m n ears each (one a) chosen step keeps = ear-keeps g f n a.begin a.edges step (each a chosen).by_n keeps
step-keeps g f m n ears each (two a b) chosen step keeps =
    let second = second_ear g f a.begin a.edges b.begin b.edges step in
    ear-keeps g (with_edges f a.edges) n b.begin b.edges second
    (λ w h o. (each b chosen.1).by_n w h (false_from_ne_true (is_met g f w) (λ i. both_ways (is_met g (with_edges f a.edges) w) o (still-met g f a.edges w i))))
    (ear-keeps g f n a.begin a.edges step.first (each a chosen.0).by_n keeps)

-- the first stage keeps them, where its edge is one of the matching
pub first-keeps : (g : Graph) → IsMultigraph g → (n : MatchingValue) → IsPerfectRows g n → (e : ℕ) → Within (size g) e → mem (edges_of n) e ≡ true → KeepsMates g (row_edge n.rows) (is_met g (singleton e))
first-keeps g is n rows e we holds w ww t = grind (arith, one-ends, or_left, eq-eqb, or_right, row-is, ends-met)

-- the numbers of a step are in range
pub step-fits : (g : Graph) → IsGraph g → (f : Set) (s : PlainStep) → IsStep g f s → FitsStep g.order (size g) s
step-fits g is f s ear = grind (arith, ear-fits g is f)

-- a covered graph has edges and perfect matchings
pub covered-edge : (g : Graph) → IsMultigraph g → IsCovered g → Within (size g) 1
covered-edge g is cov = let t = cov.two in let e = cut_edge g (singleton 1) 1 2 is.ends cov (omega arith) (omega arith) refl refl in let w = e.1 in omega arith

pub covered-allowed : (g : Graph) → IsMultigraph g → IsCovered g → (e : ℕ) → Within (size g) e → Allowed g e
covered-allowed g is cov e w = cov.allowed e w (is.no_loop e w)

pub covered-perfect : (g : Graph) → IsMultigraph g → IsCovered g → HasPerfect g none
covered-perfect g is cov = let m = covered-allowed g is cov 1 (covered-edge g is cov) in (m.0, m.1)

-- the edge that leads out is that of the matching at a vertex of the stage
pub led-out : (g : Graph) → IsGraph g → (f : Set) (m : MatchingValue) → IsPerfectRows g m → (e : ℕ) → Within (size g) e → mem (edges_of m) e ≡ true → f e ≡ false → (is_met g f (first_end g e) || is_met g f (second_end g e)) ≡ true →
    (v : ℕ) × Within g.order v × (is_met g f v ≡ true) × (f (row_edge m.rows v) ≡ false)
led-out g is f m rows e w holds off t = grind (arith, or_cases, row-is, or_left, eq-eqb, or_right)

-- steps that go on
pub steps-go_on : (g : Graph) (first f new : Set) (before : List PlainStep) (s : PlainStep) → IsStep g f s → IsStage g (next_stage f s) → ((i : ℕ) → new i ≡ next_stage f s i) →
    ((others : List PlainStep) → AreSteps g f others → AreSteps g first (before ++ others)) → (others : List PlainStep) → AreSteps g new others → AreSteps g first ((before ++ s ∷ []) ++ others)
steps-go_on g first f new before s step stage same so_far others goes =
    subst (λ (xs : List PlainStep). AreSteps g first xs) (sym (append_assoc before (s ∷ []) others))
    (so_far (s ∷ others) (step, stage, subst (λ (h : Set). AreSteps g h others) (fun_ext same) goes))

-- two facts of one answer
pub both-ok : {A Fault : Type 0} (result : Result A Fault) (P Q : A → Type 0) → IfOk result P → IfOk result Q → IfOk result (λ a. P a × Q a)
both-ok result P Q p q = grind arith

-- the ears collected, from no used vertices on
pub round-ears : (g : Graph) (f : Set) (m n : ℕ → ℕ) (used : List ℕ) → used ≡ [] → (old ears : List PlainEar) → old ≡ [] → (more : List PlainEar) × (ears ≡ old ++ more) × AreMatedEars g f m n (mem used) more → AreMatedEars g f m n none ears
round-ears g f m n used unused old ears empty x =
    let is : ears ≡ x.0 = x.1 ∙ ap (λ (xs : List PlainEar). xs ++ x.0) empty in
    subst (λ (xs : List PlainEar). AreMatedEars g f m n none xs) (sym is) (subst (λ (us : List ℕ). AreMatedEars g f m n (mem us) x.0) unused x.2)

-- they are candidates for a step, where the matching leads out of the stage
pub round-candidates : (g : Graph) → IsGraph g → (f : Set) (m : MatchingValue) → IsPerfectRows g m → (n : ℕ → ℕ) → (v : ℕ) × Within g.order v × (is_met g f v ≡ true) × (f (row_edge m.rows v) ≡ false) →
    (ears : List PlainEar) → AreMatedEars g f (row_edge m.rows) n none ears → AreCandidates g f ears
round-candidates g is f m rows n v ears mated =
    mated-candidates g f (row_edge m.rows) n (mem (edges_of m)) rows.perfect (rows-mates g is m rows) (λ v wv. (row-found g is m rows v wv).1) (λ v d wv wd md h. row-is g is m rows v d wv wd md h) ears mated v.0 v.1 v.2 v.3

module _ (g : Graph) (f new : Set) (s : PlainStep) (same : (i : ℕ) → new i ≡ next_stage f s i) where
  pub stage-there : IsStage g (next_stage f s) → IsStage g new
  stage-there stage = subst (IsStage g) (sym (fun_ext same)) stage

  pub mates-there : (n : ℕ → ℕ) → KeepsMates g n (is_met g (next_stage f s)) → KeepsMates g n (is_met g new)
  mates-there n keeps = subst (λ (h : Set). KeepsMates g n (is_met g h)) (sym (fun_ext same)) keeps

  -- fewer edges are off the stage
  pub fewer-off : IsStep g f s → count (size g) (complement new) + 1 ≤ count (size g) (complement f)
  fewer-off step =
      let a = step-adds g f s step in
      let b = subst (λ (h : Set). count (size g) f + 1 ≤ count (size g) h) (sym (fun_ext same)) a in
      let c = count_complement (size g) f in
      let d = count_complement (size g) new in omega arith

-- after a single step
pub all-single : (before : List PlainStep) (s : PlainStep) → AllByRecursion IsSingle before → IsSingle s → AllByRecursion IsSingle (before ++ s ∷ [])
all-single [] s singles single = (single, tt)
all-single (x ∷ before) s singles single = (singles.0, all-single before s singles.1 single)

-- the numbers of an ear list are in range, and no ear is empty
steps-fit : (g : Graph) → IsGraph g → (f : Set) (steps : List PlainStep) → AreSteps g f steps → AllByRecursion (FitsStep g.order (size g)) steps
steps-fit g is f [] goes = tt
steps-fit g is f (s ∷ steps) goes = (step-fits g is f s goes.0, steps-fit g is (next_stage f s) steps goes.2)

pub list-fits : (g : Graph) → IsGraph g → (list : PlainEars) → IsEarList g list → FitsEars g.order (size g) list
list-fits g is list ears = record { start = ears.start; steps = steps-fit g is (singleton list.start) list.steps ears.steps }

step-filled : (g : Graph) (f : Set) (s : PlainStep) → IsStep g f s → HasEdges s
step-filled g f s ear = grind arith

steps-filled : (g : Graph) (f : Set) (steps : List PlainStep) → AreSteps g f steps → AllByRecursion HasEdges steps
steps-filled g f [] goes = tt
steps-filled g f (s ∷ steps) goes = (step-filled g f s goes.0, steps-filled g (next_stage f s) steps goes.2)

pub list-filled : (g : Graph) (list : PlainEars) → IsEarList g list → AllByRecursion HasEdges list.steps
list-filled g list ears = steps-filled g (singleton list.start) list.steps ears.steps
