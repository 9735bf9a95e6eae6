-- The first refusal of an ear list: at each step the tests of its first ear and then of its
-- second one, then whether the new stage is matching covered; after the last step whether edges
-- are left.
-- Stated by: ear_core, bench_reports. Used by: bench_outcomes, theorems.
use Rattle.std.specs.Prelude.{◌≡◌, ◌⊎◌, ◌↔◌, ℕ, ◌+◌, true, List, [], ◌∷◌, Option, Some, None}
use Rattle.graph_core.specs.from_counting.Common.{Set, singleton, IsLeastWithout}
use Rattle.graph_core.specs.Common.{Graph, size}
use Rattle.ear_core.specs.Stages.{IsStage, AllowedBy}
use Rattle.ear_core.specs.EarLists.{PlainStep, one, two, PlainEars, next_stage, AreSteps, IsEarList}
use Rattle.ear_core.specs.EarTests.{PlainWhy, stage_not_covered, ends_early, ear_fault, inner_vertices}

-- the first of two
abbrev pub first_why : Option PlainWhy → Option PlainWhy → Option PlainWhy
first_why (Some why) other = Some why
first_why None other = other

-- the first test that a step fails on the stage f, before its new stage is looked at
abbrev pub step_fault : Graph → Set → PlainStep → Option PlainWhy
step_fault g f (one a) = ear_fault g f [] [] a.begin a.edges
step_fault g f (two a b) =
    first_why (ear_fault g f [] [] a.begin a.edges) (ear_fault g f (inner_vertices g a.begin a.edges) a.edges b.begin b.edges)

-- e is the least edge of f that lies in no perfect matching of the graph of f
abbrev pub IsLeastUnallowed : Graph → Set → ℕ → Type 0
IsLeastUnallowed g f e = IsLeastWithout (size g) (λ d. f d ≡ true → AllowedBy g f d) e

-- the step is refused on the stage f: by a test, or since the new stage is not covered
abbrev pub IsStepRefused : Graph → Set → PlainStep → PlainWhy → Type 0
IsStepRefused g f s why =
    (step_fault g f s ≡ Some why)
    ⊎ ((step_fault g f s ≡ None) × ((e : ℕ) × IsLeastUnallowed g (next_stage f s) e × (why ≡ stage_not_covered e)))

-- k steps were made and lead to f: the first refusal of those that follow, by the number of its
-- step and its reason
abbrev pub IsFirstRefusal : Graph → Set → ℕ → List PlainStep → ℕ → PlainWhy → Type 0
IsFirstRefusal g f k [] number why = (number ≡ k) × ((e : ℕ) × IsLeastWithout (size g) (λ d. f d ≡ true) e × (why ≡ ends_early e))
IsFirstRefusal g f k (s ∷ steps) number why =
    ((number ≡ k + 1) × IsStepRefused g f s why)
    ⊎ ((step_fault g f s ≡ None) × IsStage g (next_stage f s) × IsFirstRefusal g (next_stage f s) (k + 1) steps number why)

-- what is answered of steps that follow k others: nothing if they lead to all edges, else
-- their first refusal
abbrev pub IsJudged : Graph → Set → ℕ → List PlainStep → Option (ℕ × PlainWhy) → Type 0
IsJudged g f k steps None = AreSteps g f steps
IsJudged g f k steps (Some refusal) = IsFirstRefusal g f k steps refusal.0 refusal.1

-- the first refusal of a list of ears of g
abbrev pub IsRefused : Graph → PlainEars → ℕ → PlainWhy → Type 0
IsRefused g list number why = IsFirstRefusal g (singleton list.start) 0 list.steps number why

-- no refusal is returned if and only if the list is an ear list of g
abbrev pub AcceptsList : Graph → PlainEars → Option (ℕ × PlainWhy) → Type 0
AcceptsList g list refusal = (refusal ≡ None) ↔ IsEarList g list

-- the refusal that is returned is the first one
abbrev pub RefusesList : Graph → PlainEars → Option (ℕ × PlainWhy) → Type 0
RefusesList g list refusal = (step : ℕ) (why : PlainWhy) → (refusal ≡ Some (step, why)) ↔ IsRefused g list step why
