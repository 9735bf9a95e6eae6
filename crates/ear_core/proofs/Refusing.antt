-- A list of steps from a stage leads to all edges, or has exactly one first refusal. The tests of
-- a step say that it is a step; then only the odd edges of its ears are left to ask, and the new
-- stage is covered exactly when no edge of it is refused.
use Rattle.graph_core.proofs.from_counting.Common.{◌≡◌, ℕ, ◌+◌, Bool, true, false, if◌then◌else◌, Option, Some, None, refl, sym, ap, ◌∙◌, ◌||◌, inl, inr, [], ◌∷◌, List, arith, both_ways, Within, mem, Set, none}
use Rattle.graph_core.proofs.Common.{Graph, size, IsGraph}
use Rattle.ear_core.specs.Common.{IsStage, AllowedBy, with_edges, IsNearlyStage, odds, PlainStep, one, two, next_stage, IsStep, AreSteps, PlainWhy, not_path, even_length, bad_ends, inner_on_stage, edge_used, is_path, has_odd_length, has_good_ends, has_free_inner, has_new_edges, Passes, ear_fault, first_why, step_fault, IsLeastUnallowed, IsStepRefused, IsFirstRefusal}
use Rattle.ear_core.proofs.AddedEars.{grow}
use Rattle.ear_core.proofs.NextStages.{nearly, met-within, second_ear}
use Rattle.ear_core.proofs.EarTests.{first_passes, second_passes}

-- the first test that fails
abbrev pub which : Bool → Bool → Bool → Bool → Bool → Option PlainWhy
which b1 b2 b3 b4 b5 = if b1 then (if b2 then (if b3 then (if b4 then (if b5 then None else Some edge_used) else Some inner_on_stage) else Some bad_ends) else Some even_length) else Some not_path

abbrev is_none : Option PlainWhy → Bool
is_none None = true
is_none (Some why) = false

some_none : (why : PlainWhy) → Some why ≡ None → ⊥
some_none why same = both_ways (is_none (Some why)) refl (ap is_none same)

passed : (b1 b2 b3 b4 b5 : Bool) → which b1 b2 b3 b4 b5 ≡ None → (b1 ≡ true) × (b2 ≡ true) × (b3 ≡ true) × (b4 ≡ true) × (b5 ≡ true)
passed b1 b2 b3 b4 b5 h = grind arith

passes-none : (g : Graph) (f : Set) (xs ds : List ℕ) (v : ℕ) (es : List ℕ) → ear_fault g f xs ds v es ≡ None → Passes g f xs ds v es
passes-none g f xs ds v es h = let p = passed (is_path g v es) (has_odd_length es) (has_good_ends g f v es) (has_free_inner g f xs v es) (has_new_edges f ds es) h in record { path = p.0; odd = p.1; ends = p.2; inner = p.3; new = p.4 }

none-passes : (g : Graph) (f : Set) (xs ds : List ℕ) (v : ℕ) (es : List ℕ) → Passes g f xs ds v es → ear_fault g f xs ds v es ≡ None
none-passes g f xs ds v es p = grind arith

-- of two faults
both-none : (first other : Option PlainWhy) → first_why first other ≡ None → (first ≡ None) × (other ≡ None)
both-none first other h = grind arith

none-both : (first other : Option PlainWhy) → first ≡ None → other ≡ None → first_why first other ≡ None
none-both first other h k = rw (h, k) refl

-- no test of a step fails exactly when it is a step
pub step-none : (g : Graph) (f : Set) (s : PlainStep) → step_fault g f s ≡ None → IsStep g f s
step-none g f s h = grind (arith, first_passes g f, passes-none g f, both-none, second_passes g f)

pub none-step : (g : Graph) (f : Set) (s : PlainStep) → IsStep g f s → step_fault g f s ≡ None
none-step g f s ear = grind (arith, none-passes g f, first_passes g f, none-both, second_passes g f)

-- the odd edges of the ears of a step
abbrev pub step_odds : PlainStep → Set
step_odds (one a) e = none e || mem (odds a.edges) e
step_odds (two a b) e = (none e || mem (odds a.edges) e) || mem (odds b.edges) e

pub step-nearly : (g : Graph) → IsGraph g → (f : Set) (s : PlainStep) → IsStage g f → IsStep g f s → IsNearlyStage g (next_stage f s) (step_odds s)
step-nearly g is f (one a) stage ear = grow g is f none a.begin a.edges ear (met-within g is f a.begin ear.start) (nearly g f stage)
step-nearly g is f (two a b) stage pair =
    let ear = pair.first in
    let second = second_ear g f a.begin a.edges b.begin b.edges pair in
    grow g is (with_edges f a.edges) (λ e. none e || mem (odds a.edges) e) b.begin b.edges second (met-within g is (with_edges f a.edges) b.begin second.start)
    (grow g is f none a.begin a.edges ear (met-within g is f a.begin ear.start) (nearly g f stage))

-- a stage has no edge that is refused
pub stage-fine : (g : Graph) (f : Set) (e : ℕ) → IsStage g f → IsLeastUnallowed g f e → ⊥
stage-fine g f e stage least = least.without (λ t. stage.allowed e least.within t)

-- and what is nearly a stage without such an edge is one
pub fine-stage : (g : Graph) (f o : Set) → IsNearlyStage g f o → ((e : ℕ) → Within (size g) e → f e ≡ true → AllowedBy g f e) → IsStage g f
fine-stage g f o near fine = record { some_edge = near.some_edge; connected = near.connected; allowed = fine }

-- the first refusal is one alone
pub refusal-one : (g : Graph) (f : Set) (k : ℕ) (steps : List PlainStep) (i j : ℕ) (a b : PlainWhy) → IsFirstRefusal g f k steps i a → IsFirstRefusal g f k steps j b → (i ≡ j) × (a ≡ b)
refusal-one g f k [] i j a b x y = grind arith
refusal-one g f k (s ∷ steps) i j a b x y = elim x [
  | inl p ↦ grind arith
  | inr p ↦ elim y [
    | inl q ↦ absurd (not-both q.1 p.0 p.1)
    | inr q ↦ refusal-one g (next_stage f s) (k + 1) steps i j a b p.2 q.2
  ]
]
  where
    not-both : {why : PlainWhy} → IsStepRefused g f s why → step_fault g f s ≡ None → IsStage g (next_stage f s) → ⊥
    not-both {why} r passes stage = elim r [
      | inl t ↦ some_none why (sym t ∙ passes)
      | inr t ↦ let u = t.1 in stage-fine g (next_stage f s) u.0 stage u.1
    ]

-- and steps with a refusal do not lead to all edges
pub refusal-none : (g : Graph) (f : Set) (k : ℕ) (steps : List PlainStep) (i : ℕ) (a : PlainWhy) → IsFirstRefusal g f k steps i a → AreSteps g f steps → ⊥
refusal-none g f k [] i a x all = let p = x.1 in let least = p.1 in least.without (all p.0 least.within)
refusal-none g f k (s ∷ steps) i a x all = elim x [
  | inl p ↦ grind (arith, some_none a, none-step g f s all.0, stage-fine g (next_stage f s))
  | inr p ↦ refusal-none g (next_stage f s) (k + 1) steps i a p.2 all.2
]
