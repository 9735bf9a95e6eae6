-- A step whose tests pass and whose edges are all allowed makes a stage; the least of its edges
-- that is not allowed is that of the stage.
use Rattle.graph_core.proofs.from_counting.Common.{◌≡◌, ℕ, true, false, List, All, get_or, Option, Some, None, IfSome, subst, arith, fun_ext, cases_Bool, or_left, or_right, or_parts, or_from, both_ways, false_from_ne_true, mem-item, Within, mem, Set, none}
use Rattle.graph_core.proofs.Common.{Graph, size, IsGraph}
use Rattle.ear_core.specs.Common.{PlainStep, one, two, next_stage, FitsStep, odds, step_fault, IsLeastUnallowed, Settled, IsStage, AllowedBy, ear_of, plain_step}
use Rattle.ear_core.specs.declared.ears.Ear.{Ear}
use Rattle.ear_core.proofs.TraceEdges.{mem_odds}
use Rattle.ear_core.proofs.Refusing.{step-none, step_odds, step-nearly, fine-stage}

all-marked : (new : Set) (es : List ℕ) → ((i : ℕ) → mem es i ≡ true → new i ≡ true) → All (λ e. new e ≡ true) es
all-marked new es h k d less = h (get_or es k d) (mem-item es k d less)

-- the edges of a step that was marked
pub first_marked : (old new : Set) (first : Ear) (second : Option Ear) → ((i : ℕ) → new i ≡ next_stage old (plain_step (ear_of first) second) i) → All (λ e. new e ≡ true) first.edges
first_marked old new first second same = grind (arith, all-marked new first.edges, or_right, or_left)

pub second_marked : (old new : Set) (first : Ear) (second : Option Ear) → ((i : ℕ) → new i ≡ next_stage old (plain_step (ear_of first) second) i) → IfSome second (λ b. All (λ e. new e ≡ true) b.edges)
second_marked old new first second same = grind (arith, all-marked new, or_right)

-- the edges of a step in range
pub second_fits : (n m : ℕ) (first : Ear) (second : Option Ear) → FitsStep n m (plain_step (ear_of first) second) → IfSome second (λ b. All (Within m) b.edges)
second_fits n m first second fits = grind arith

-- an edge of no ear is not an odd one
odds-asked : (s : PlainStep) (d : ℕ) → next_stage none s d ≡ false → step_odds s d ≡ false
odds-asked (one a) d h = false_from_ne_true (mem (odds a.edges) d) (λ t. both_ways (mem a.edges d) h (mem_odds a.edges d t))
odds-asked (two a b) d h =
    let p = or_parts (mem a.edges d) (mem b.edges d) h in
    or_from (mem (odds a.edges) d) (mem (odds b.edges) d) (false_from_ne_true (mem (odds a.edges) d) (λ t. both_ways (mem a.edges d) p.0 (mem_odds a.edges d t)))
    (false_from_ne_true (mem (odds b.edges) d) (λ t. both_ways (mem b.edges d) p.1 (mem_odds b.edges d t)))

module _ (g : Graph) (is : IsGraph g) (f : Set) (s : PlainStep) (new : Set) (same : (i : ℕ) → new i ≡ next_stage f s i) (stage : IsStage g f) (passes : step_fault g f s ≡ None) where
  edge-fine : (d : ℕ) → Within (size g) d → next_stage f s d ≡ true → (next_stage none s d ≡ true → AllowedBy g (next_stage f s) d) → AllowedBy g (next_stage f s) d
  edge-fine d w t asked = grind (arith, step-nearly g is f s stage (step-none g f s passes), step-none g f s passes, cases_Bool (next_stage none s d), odds-asked s d)

  known : (least : Option ℕ) → Settled g new (next_stage none s) least → Settled g (next_stage f s) (next_stage none s) least
  known least settled = subst (λ (h : Set). Settled g h (next_stage none s) least) (fun_ext same) settled

  pub step-taken : Settled g new (next_stage none s) None → IsStage g (next_stage f s)
  step-taken settled =
      let fine = known None settled in
      fine-stage g (next_stage f s) (step_odds s) (step-nearly g is f s stage (step-none g f s passes)) (λ d w t. edge-fine d w t (λ a. fine d w a))

  pub step-refused : (e : ℕ) → Settled g new (next_stage none s) (Some e) → IsLeastUnallowed g (next_stage f s) e
  step-refused e settled =
      let fine = known (Some e) settled in
      record { within = fine.0; without = λ p. fine.2 (p fine.1); before = λ d w less t. edge-fine d w t (λ a. fine.3 d w a less) }
