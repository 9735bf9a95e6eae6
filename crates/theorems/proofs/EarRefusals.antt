-- Each list of ears of a graph is an ear list, or has a first refusal. Each rule is decided: the
-- tests compute, and whether the graph of a stage has a perfect matching with an edge is asked of
-- the listed edges.
use Rattle.tree_check.proofs.from_counting.Common.{◌≡◌, ◌⊎◌, ◌↔◌, ℕ, ◌+◌, true, List, [], ◌∷◌, Option, Some, None, refl, inl, inr, all_or_least, both_ways, cases_Bool, Within, Set, pair_set, singleton}
use Rattle.barrier_kit.proofs.Common.{perfect_or_not}
use Rattle.graph_core.proofs.Common.{Graph, IsMultigraph, first_end, second_end, size, HasPerfect}
use Rattle.ear_text.specs.from_ear_core.Common.{AreSteps, IsEarList, PlainEars, PlainStep, next_stage, PlainWhy, ends_early, stage_not_covered, IsFirstRefusal, IsLeastUnallowed, IsRefused, step_fault, AllowedBy, IsStage}
use Rattle.ear_text.proofs.from_ear_core.EngineGraphs.{edge_serves, served_listed}
use Rattle.ear_text.proofs.from_ear_core.FirstStage.{first-stage}
use Rattle.ear_text.proofs.from_ear_core.Refusing.{fine-stage, step-nearly, step-none, step_odds}

-- what is the same as having a perfect matching is decided
decided : (A : Type 0) (h : Graph) (r : Set) → A ↔ HasPerfect h r → A ⊎ (A → ⊥)
decided A h r same = elim (perfect_or_not h r) [ inl m ↦ inl (same.1 m) | inr n ↦ inr (λ a. let m = same.0 a in n m.0 m.1) ]

module _ (g : Graph) (is : IsMultigraph g) where
  -- whether an edge of f lies in a perfect matching of the graph of f
  allowed_or_not : (f : Set) (e : ℕ) → Within (size g) e → (f e ≡ true → AllowedBy g f e) ⊎ ((f e ≡ true → AllowedBy g f e) → ⊥)
  allowed_or_not f e w = elim (cases_Bool (f e)) [
    | inr off ↦ inl (λ on. absurd (both_ways (f e) off on))
    | inl on ↦
        let serves = edge_serves g f e is.ends w (is.no_loop e w) on in
        elim (decided _ _ _ (served_listed g f (pair_set (first_end g e) (second_end g e)))) [
          | inl m ↦ inl (λ h. serves.1 m)
          | inr n ↦ inr (λ h. n (serves.0 (h on)))
        ]
  ]

  on_or_not : (f : Set) (e : ℕ) → (f e ≡ true) ⊎ (f e ≡ true → ⊥)
  on_or_not f e = elim (cases_Bool (f e)) [ inl on ↦ inl on | inr off ↦ inr (λ on. both_ways (f e) off on) ]

  -- steps from a stage lead over stages to all edges, or have a first refusal
  steps_or_refusal : (f : Set) (k : ℕ) (steps : List PlainStep) → IsStage g f → AreSteps g f steps ⊎ ((number : ℕ) × (why : PlainWhy) × IsFirstRefusal g f k steps number why)
  steps_or_refusal f k [] stage = elim (all_or_least (size g) (λ e. f e ≡ true) (λ e w. on_or_not f e)) [
    | inl all ↦ inl all
    | inr least ↦ inr (k, ends_early least.0, (refl, (least.0, least.1, refl)))
  ]
  steps_or_refusal f k (s ∷ steps) stage = tested (step_fault g f s) refl (all_or_least (size g) (λ e. next_stage f s e ≡ true → AllowedBy g (next_stage f s) e) (allowed_or_not (next_stage f s))) (λ next. steps_or_refusal (next_stage f s) (k + 1) steps next)
    where
      tested : (fault : Option PlainWhy) → step_fault g f s ≡ fault →
          ((e : ℕ) → Within (size g) e → next_stage f s e ≡ true → AllowedBy g (next_stage f s) e) ⊎ ((e : ℕ) × IsLeastUnallowed g (next_stage f s) e) →
          (IsStage g (next_stage f s) → AreSteps g (next_stage f s) steps ⊎ ((number : ℕ) × (why : PlainWhy) × IsFirstRefusal g (next_stage f s) (k + 1) steps number why)) →
          AreSteps g f (s ∷ steps) ⊎ ((number : ℕ) × (why : PlainWhy) × IsFirstRefusal g f k (s ∷ steps) number why)
      tested (Some why) fails allowed after = inr (k + 1, why, inl (refl, inl fails))
      tested None passes (inr least) after = inr (k + 1, stage_not_covered least.0, inl (refl, inr (passes, (least.0, least.1, refl))))
      tested None passes (inl allowed) after =
          let step = step-none g f s passes in
          let next = fine-stage g (next_stage f s) (step_odds s) (step-nearly g is.ends f s stage step) allowed in
          elim (after next) [
            | inl rest ↦ inl (step, next, rest)
            | inr refused ↦ inr (refused.0, refused.1, inr (passes, next, refused.2))
          ]

  -- a list whose first edge is one of the graph
  pub ears_or_refusal : (list : PlainEars) → Within (size g) list.start → IsEarList g list ⊎ ((number : ℕ) × (why : PlainWhy) × IsRefused g list number why)
  ears_or_refusal list start =
      let stage = first-stage g is list.start start in
      elim (steps_or_refusal (singleton list.start) 0 list.steps stage) [
        | inl steps ↦ inl (record { start = start; first_stage = stage; steps = steps })
        | inr refused ↦ inr refused
      ]
