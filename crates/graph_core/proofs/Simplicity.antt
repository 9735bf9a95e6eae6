-- A graph is simple if no edge has the ends of an earlier one. Idea: of two edges with the same
-- ends one is earlier, and "has the ends of" is symmetric.
use Rattle.vset_core.proofs.from_counting.Common.{◌≡◌, ℕ, ◌-◌, Bool, true, false, arith, inl, inr, both_ways, cases_lt, cases_eq, some_true, some_none, Within, some}
use Rattle.graph_core.specs.Common.{Graph, size, first_end, second_end, has_ends, IsSimple}

-- edge f has the ends of edge e
abbrev pub repeats : Graph → ℕ → ℕ → Bool
repeats g e f = has_ends g (first_end g e) (second_end g e) f

pub repeats-back : (g : Graph) (e f : ℕ) → repeats g e f ≡ true → repeats g f e ≡ true
repeats-back g e f h = grind arith

pub simple_from_no_repeat : (g : Graph) → ((e : ℕ) → Within (size g) e → some (e - 1) (repeats g e) ≡ false) → IsSimple g
simple_from_no_repeat g h e f we wf r = elim (cases_eq e f) [
  | inl q ↦ q
  | inr d ↦ elim (cases_lt e f) [
    | inl l ↦ absurd (both_ways (repeats g f e) (some_none (f - 1) (repeats g f) (h f wf) e (omega arith)) (repeats-back g e f r))
    | inr l ↦ absurd (both_ways (repeats g e f) (some_none (e - 1) (repeats g e) (h e we) f (omega arith)) r)
  ]
]

pub no_repeat_from_simple : (g : Graph) (e : ℕ) → IsSimple g → Within (size g) e → some (e - 1) (repeats g e) ≡ true → ⊥
no_repeat_from_simple g e s we h = grind (arith, some_true (e - 1) (repeats g e) h)
