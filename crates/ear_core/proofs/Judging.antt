-- The answer to a list of steps, step by step: what is answered of the steps after one that is
-- taken is answered of all. And the answer to a list is right both ways, since a list of steps
-- has no refusal or leads not to all edges.
use Rattle.graph_core.proofs.from_counting.Common.{◌≡◌, ◌↔◌, ℕ, ◌+◌, ◌≤◌, Bool, true, false, List, ◌∷◌, Option, Some, None, Result, IfOk, refl, sym, ap, subst, arith, fun_ext, both_ways, IfOk-weaker, Within, count, Set, singleton}
use Rattle.graph_core.proofs.Common.{Graph, size, IsMultigraph}
use Rattle.ear_core.specs.Common.{PlainStep, PlainEars, next_stage, IsEarList, PlainWhy, step_fault, IsJudged, IsRefused, IsStage, refusal_of}
use Rattle.ear_core.specs.declared.judgement.EarJudgement.{EarJudgement}
use Rattle.ear_core.proofs.FirstStage.{first-stage, step-adds}
use Rattle.ear_core.proofs.Refusing.{step-none, refusal-none, refusal-one}

-- a step that is taken
module _ (g : Graph) (f new : Set) (s : PlainStep) (passes : step_fault g f s ≡ None) (stage : IsStage g (next_stage f s)) (same : (i : ℕ) → new i ≡ next_stage f s i) where
  pub taken-stage : IsStage g new
  taken-stage = subst (IsStage g) (sym (fun_ext same)) stage

  pub taken-adds : count (size g) f + 1 ≤ count (size g) new
  taken-adds = subst (λ (h : Set). count (size g) f + 1 ≤ count (size g) h) (sym (fun_ext same)) (step-adds g f s (step-none g f s passes))

  behind : (k : ℕ) (steps : List PlainStep) (answer : Option (ℕ × PlainWhy)) → IsJudged g (next_stage f s) (k + 1) steps answer → IsJudged g f k (s ∷ steps) answer
  behind k steps answer judged = grind (arith, step-none g f s passes)

  pub judged-behind : (k : ℕ) (rest others : List PlainStep) → rest ≡ s ∷ others → (answer : Option (ℕ × PlainWhy)) → IsJudged g new (k + 1) others answer → IsJudged g f k rest answer
  judged-behind k rest others begins answer judged =
      subst (λ (steps : List PlainStep). IsJudged g f k steps answer) (sym begins)
      (behind k others answer (subst (λ (h : Set). IsJudged g h (k + 1) others answer) (fun_ext same) judged))

abbrev is_some : Option (ℕ × PlainWhy) → Bool
is_some None = false
is_some (Some refusal) = true

no-some : (refusal : ℕ × PlainWhy) → Some refusal ≡ None → ⊥
no-some refusal same = both_ways (is_some (Some refusal)) (ap is_some same) refl

-- the answer is right both ways
module _ (g : Graph) (is : IsMultigraph g) (f : Set) (list : PlainEars) (start : Within (size g) list.start) (same : (i : ℕ) → f i ≡ singleton list.start i) (steps : List PlainStep) (all : steps ≡ list.steps) where
  of-list : (answer : Option (ℕ × PlainWhy)) → IsJudged g f 0 steps answer → IsJudged g (singleton list.start) 0 list.steps answer
  of-list answer judged = grind arith

  accepts : (answer : Option (ℕ × PlainWhy)) → IsJudged g (singleton list.start) 0 list.steps answer → (answer ≡ None) ↔ IsEarList g list
  accepts answer judged = grind (arith, first-stage g is list.start start, no-some, refusal-none g (singleton list.start) 0 list.steps)

  refuses : (answer : Option (ℕ × PlainWhy)) → IsJudged g (singleton list.start) 0 list.steps answer → (step : ℕ) (why : PlainWhy) → (answer ≡ Some (step, why)) ↔ IsRefused g list step why
  refuses answer judged step why = grind (arith, no-some (step, why), refusal-none g (singleton list.start) 0 list.steps step why, refusal-one g (singleton list.start) 0 list.steps)

  module _ {Fault : Type 0} (result : Result EarJudgement Fault) (judged : IfOk result (λ judgement. IsJudged g f 0 steps (refusal_of judgement))) where
    pub judged-accepted : IfOk result (λ judgement. (refusal_of judgement ≡ None) ↔ IsEarList g list)
    judged-accepted = IfOk-weaker result (λ judgement. IsJudged g f 0 steps (refusal_of judgement)) (λ judgement. (refusal_of judgement ≡ None) ↔ IsEarList g list)
        (λ judgement x. accepts (refusal_of judgement) (of-list (refusal_of judgement) x)) judged

    pub judged-refused : IfOk result (λ judgement. (step : ℕ) (why : PlainWhy) → (refusal_of judgement ≡ Some (step, why)) ↔ IsRefused g list step why)
    judged-refused = IfOk-weaker result (λ judgement. IsJudged g f 0 steps (refusal_of judgement)) (λ judgement. (step : ℕ) (why : PlainWhy) → (refusal_of judgement ≡ Some (step, why)) ↔ IsRefused g list step why)
        (λ judgement x. refuses (refusal_of judgement) (of-list (refusal_of judgement) x)) judged

-- where one edge is marked, it is a stage
pub one-stage : (g : Graph) → IsMultigraph g → (f : Set) (e : ℕ) → Within (size g) e → ((i : ℕ) → f i ≡ singleton e i) → IsStage g f
one-stage g is f e w same = subst (IsStage g) (sym (fun_ext same)) (first-stage g is e w)
