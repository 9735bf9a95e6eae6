-- From each stage that does not hold all edges a step leads on, and so an ear decomposition
-- exists.
-- Idea: one perfect matching is kept; another one that holds an edge leading out of the stage
-- makes ears with it, of which one or two serve (the two-ear theorem).
use Rattle.tree_check.proofs.from_counting.Common.{[], ◌≡◌, ℕ, zero, suc, ◌+◌, ◌<◌, ◌⊎◌, true, not, ◌&&◌, ◌||◌, refl, arith, inl, inr, List, ◌∷◌, false, and_parts, cases_eq, not-true, count_member, count_zero, AllByRecursion, Within, count, mem, Set, complement, none, singleton, union}
use Rattle.barrier_kit.proofs.Common.{perfect_or_not}
use Rattle.ear_text.proofs.from_ear_core.BipartiteStages.{bipartite-found}
use Rattle.ear_text.proofs.from_ear_core.EngineGraphs.{served_listed}
use Rattle.ear_text.proofs.from_ear_core.FirstStage.{first-stage}
use Rattle.ear_text.proofs.from_ear_core.LoneLeads.{lone-leads, lone-single}
use Rattle.ear_text.proofs.from_ear_core.LoneMatchings.{none-forced, single-forced}
use Rattle.ear_text.proofs.from_ear_core.Mates.{rows-mates}
use Rattle.ear_text.proofs.from_ear_core.NeededPairs.{found-needed}
use Rattle.ear_text.proofs.from_ear_core.Searching.{beside-here, beside-later, found-one, found-two, never-none, no-two-later, none-beside-later, two-here, two-later}
use Rattle.ear_text.proofs.from_ear_core.Stepping.{all-on, covered-allowed, fewer-off, first-keeps, led-out, round-candidates, step-keeps}
use Rattle.ear_text.specs.from_ear_core.Common.{AreCandidates, IsChosen, IsPerfectRows, KeepsMates, Serves, ends_of_ear, row_edge, FindsBeside, FindsTwo, NoTwoServe, NoneServesBeside, AreForced, AreNeeded, AreSteps, IsEarList, IsForced, IsNeeded, IsSingle, IsStep, IsUnrefinable, PlainEar, PlainEars, PlainStep, TakesSingles, next_stage, one, two, LeadsAtTwo, listed, IsStage, is_met}
use Rattle.graph_core.proofs.Common.{IsCovered, Graph, IsBipartite, IsGraph, IsMultigraph, first_end, second_end, size, with_ends, IsPerfect}
use Rattle.match_core.proofs.MatchingEdges.{marked_matching}
use Rattle.match_core.specs.Common.{MatchingValue, edges_of}
use Rattle.theorems.proofs.EarPaths.{perfect-rows, round-exists, rows-hold}
use Rattle.theorems.proofs.LoneSteps.{lone-or, lone-rows}

-- whether vertices serve is decided
serves-or : (g : Graph) (f r : Set) → Serves g f r ⊎ (Serves g f r → ⊥)
serves-or g f r = elim (perfect_or_not (with_ends g (listed g f (size g))) (union (complement (is_met g f)) r)) [
  | inl p ↦ inl ((served_listed g f r).1 p)
  | inr never ↦ inr (λ q. let p = (served_listed g f r).0 q in never p.0 p.1)
]

-- so one ear that serves is found, or two that serve together, or none
beside-or : (g : Graph) (f x : Set) (ears : List PlainEar) → ((a : PlainEar) × FindsBeside g f x ears a) ⊎ NoneServesBeside g f x ears
beside-or g f x [] = inr (λ a i q. i)
beside-or g f x (a ∷ ears) = elim (serves-or g f (union x (ends_of_ear g a))) [
  | inl q ↦ inl (a, beside-here g f a (a ∷ ears) ears refl x a refl q)
  | inr never ↦ elim (beside-or g f x ears) [
    | inl found ↦ inl (found.0, beside-later g f a (a ∷ ears) ears refl x found.0 found.1)
    | inr none ↦ inr (none-beside-later g f a (a ∷ ears) ears refl x never none)
  ]
]

two-or : (g : Graph) (f : Set) (ears : List PlainEar) → ((s : PlainStep) × FindsTwo g f ears s) ⊎ NoTwoServe g f ears
two-or g f [] = inr (λ a b i q. i)
two-or g f (a ∷ ears) = elim (beside-or g f (ends_of_ear g a) ears) [
  | inl found ↦ inl (two a found.0, two-here g f a (a ∷ ears) ears refl found.0 (two a found.0) refl found.1)
  | inr never ↦ elim (two-or g f ears) [
    | inl found ↦ inl (found.0, two-later g f a (a ∷ ears) ears refl found.0 found.1)
    | inr none ↦ inr (no-two-later g f a (a ∷ ears) ears refl never none)
  ]
]

chosen-exists : (g : Graph) → IsGraph g → (f : Set) → IsStage g f → (ears : List PlainEar) → AreCandidates g f ears → (s : PlainStep) × IsChosen ears s × IsStep g f s × IsStage g (next_stage f s) × IsNeeded g f s × (IsBipartite g → IsSingle s)
chosen-exists g is f stage ears c = elim (beside-or g f (mem []) ears) [
  | inl found ↦ let r = found-one g is f stage ears c found.0 found.1 in (one found.0, r.0, r.1, r.2, tt, λ sides. tt)
  | inr none ↦ elim (two-or g f ears) [
    | inl found ↦ let r = found-two g is f stage ears c found.0 found.1 in (found.0, r.0, r.1, r.2, found-needed g is f stage ears c.each none found.0 found.1, λ sides. absurd (bipartite-found g is sides f stage ears c none))
    | inr never ↦ absurd (never-none g is f stage ears c none never)
  ]
]

-- an edge leads out of the stage
abbrev leads_out : Graph → Set → Set
leads_out g f e = not (f e) && (is_met g f (first_end g e) || is_met g f (second_end g e))

module _ (g : Graph) (is : IsMultigraph g) (cov : IsCovered g) (kept : MatchingValue) (rows_of : IsPerfectRows g kept) where
  abbrev n : ℕ → ℕ
  n = row_edge kept.rows

  -- a stage with the mates of its vertices, after a step
  abbrev StepsOn : Set → Type 0
  StepsOn f = (s : PlainStep) × IsStep g f s × IsStage g (next_stage f s) × KeepsMates g n (is_met g (next_stage f s)) × IsNeeded g f s × (IsBipartite g → IsSingle s)

  -- the step of the ears that a perfect matching makes with the kept one; it is single if that one
  -- leads out of the stage at two vertices alone
  step-by : (f : Set) → IsStage g f → KeepsMates g n (is_met g f) → (m : Set) → IsPerfect g none m →
      (v : ℕ) × Within g.order v × (is_met g f v ≡ true) × (f (row_edge (marked_matching g m).rows v) ≡ false) → (s : StepsOn f) × (LeadsAtTwo g f (mem (edges_of (marked_matching g m))) → IsSingle s.0)
  step-by f stage keeps m perfect leads =
      let rows = (marked_matching g m).rows in
      let by = perfect-rows g m perfect in
      let ears = round-exists g is.ends f (row_edge rows) (rows-mates g is.ends (marked_matching g m) by) n (rows-mates g is.ends kept rows_of) keeps in
      let c = round-candidates g is.ends f (marked_matching g m) by n leads ears.0 ears.1 in
      let s = chosen-exists g is.ends f stage ears.0 c in
      ((s.0, s.2, s.3, step-keeps g f (row_edge rows) n ears.0 ears.1.each s.0 s.1 s.2 keeps, s.4, s.5), λ two. lone-single g is.ends f (marked_matching g m) by two n ears.0 ears.1.each c stage s.0 s.1 s.4)

  -- a step that is forced if it is double
  step-on : (f : Set) → IsStage g f → KeepsMates g n (is_met g f) → (e : ℕ) → Within (size g) e → leads_out g f e ≡ true → (s : StepsOn f) × IsForced g f s.0
  step-on f stage keeps e w leads = elim (lone-or g is.ends f) [
    | inl lone ↦
        let two = lone-rows g is.ends f lone.0 lone.1 in
        let s = step-by f stage keeps lone.0 lone.1.5.perfect (lone-leads g is.ends f (marked_matching g lone.0) (perfect-rows g lone.0 lone.1.5.perfect) two) in
        (s.0, single-forced g f s.0.0 (s.1 two))
    | inr never ↦
        let parts = and_parts (not (f e)) (is_met g f (first_end g e) || is_met g f (second_end g e)) leads in
        let allowed = covered-allowed g is cov e w in
        let by = perfect-rows g allowed.0 allowed.1 in
        let s = step-by f stage keeps allowed.0 allowed.1 (led-out g is.ends f (marked_matching g allowed.0) by e w (rows-hold g allowed.0 e w allowed.2) (not-true (f e) parts.0) parts.1) in
        (s.0, none-forced g is cov f stage never s.0.0)
  ]

  pub steps-exist : (fuel : ℕ) (f : Set) → IsStage g f → KeepsMates g n (is_met g f) → count (size g) (complement f) < fuel →
      (steps : List PlainStep) × AreSteps g f steps × AreNeeded g f steps × (IsBipartite g → AllByRecursion IsSingle steps) × AreForced g f steps
  steps-exist zero f stage keeps less = absurd (omega arith)
  steps-exist (suc fuel) f stage keeps less = elim (cases_eq (count (size g) (leads_out g f)) 0) [
    | inl i ↦ ([], all-on g is.ends cov f stage (count_zero (size g) (leads_out g f) i), tt, λ sides. tt, tt)
    | inr i ↦
        let e = count_member (size g) (leads_out g f) (omega arith) in
        let on = step-on f stage keeps e.0 e.1 e.2 in
        let s = on.0 in
        let fewer = fewer-off g f (next_stage f s.0) s.0 (λ d. refl) s.1 in
        let later = steps-exist fuel (next_stage f s.0) s.2 s.3 (omega arith) in
        (s.0 ∷ later.0, (s.1, s.2, later.1), (s.4, later.2), λ sides. (s.5 sides, later.3 sides), (on.1, later.4))
  ]

pub ear-list-exists : (g : Graph) (e : ℕ) → IsMultigraph g → IsCovered g → Within (size g) e → (list : PlainEars) × IsEarList g list × (list.start ≡ e) × IsUnrefinable g list × (IsBipartite g → AllByRecursion IsSingle list.steps) × TakesSingles g list
ear-list-exists g e is cov w =
    let allowed = covered-allowed g is cov e w in
    let rows = perfect-rows g allowed.0 allowed.1 in
    let kept = marked_matching g allowed.0 in
    let stage = first-stage g is e w in
    let keeps = first-keeps g is kept rows e w (rows-hold g allowed.0 e w allowed.2) in
    let steps = steps-exist g is cov kept rows (count (size g) (complement (singleton e)) + 1) (singleton e) stage keeps (omega arith) in
    (record { start = e; steps = steps.0 }, record { start = w; first_stage = stage; steps = steps.1 }, refl, steps.2, steps.3, steps.4)
