-- The orders of the commands always pick. Idea: the first place, the last and a remainder are
-- places; and a nonempty list has a first place with the least difference of the sides, by
-- induction on the list.
use Rattle.tree_check.proofs.from_counting.Common.{[], ◌≡◌, ℕ, zero, suc, ◌-◌, ◌<◌, ◌≤◌, List, ◌∷◌, length, map, inl, inr, refl, ap, ap₂, arith, cases_lt, length-map}
use Rattle.bench_tasks.specs.from_decomposer.Common.{NamedPicks, ScriptPicks, IsMostBalanced, PicksBalanced, gap}
use Rattle.bench_tasks.specs.from_decomposer.declared.orders.NamedOrder.{NamedOrder}
use Rattle.bench_tasks.specs.from_decomposer.declared.orders.NamedOrder.TheVariants.{First, Last, Balanced}
use Rattle.theorems.proofs.PickedDerivations.{PicksSome}
use Rattle.tree_check.specs.from_tight_cuts.Common.{Barrier, Candidate, Flow, Origin, Separation, candidate_of}
use Rattle.tree_check.specs.from_tight_cuts.declared.candidate.Candidate.{Candidate as StoredCandidate}
use Rattle.tree_check.specs.from_tight_cuts.declared.candidate.Origin.TheVariants.{Barrier as FromBarrier, Separation as FromSeparation, Flow as FromFlow}

-- each candidate can be stored
stored_with : (shore : List ℕ) (inside outside : ℕ) (origin : Origin) → (s : StoredCandidate) × (candidate_of s ≡ record { shore = shore; inside = inside; outside = outside; origin = origin })
stored_with x i o Barrier = (record { shore = x; inside = i; outside = o; origin = FromBarrier }, refl)
stored_with x i o Separation = (record { shore = x; inside = i; outside = o; origin = FromSeparation }, refl)
stored_with x i o Flow = (record { shore = x; inside = i; outside = o; origin = FromFlow }, refl)

stored : (list : List Candidate) → (s : List StoredCandidate) × (map candidate_of s ≡ list)
stored [] = ([], refl)
stored (c ∷ list) = let s = stored_with c.shore c.inside c.outside c.origin in let t = stored list in (s.0 ∷ t.0, ap₂ ◌∷◌ s.1 t.1)

-- the first place whose sides differ least
least-more : (s t : StoredCandidate) (list : List StoredCandidate) → (place : ℕ) × IsMostBalanced (t ∷ list) place → (place : ℕ) × IsMostBalanced (s ∷ t ∷ list) place
least-more s t list found = elim (cases_lt (gap (t ∷ list) found.0) (gap (s ∷ t ∷ list) 0)) [
  | inl l ↦ (suc found.0, record { held = let h = found.1.held in omega arith; least = λ i j. beyond l i j; first = λ i j. before l i j })
  | inr n ↦ (0, record { held = omega arith; least = λ i j. here (omega arith) i j; first = λ i j. absurd (omega arith) })
]
  where
    beyond : gap (t ∷ list) found.0 < gap (s ∷ t ∷ list) 0 → (i : ℕ) → i < length (s ∷ t ∷ list) → gap (s ∷ t ∷ list) (suc found.0) ≤ gap (s ∷ t ∷ list) i
    beyond l zero j = omega arith
    beyond l (suc i) j = found.1.least i (omega arith)

    before : gap (t ∷ list) found.0 < gap (s ∷ t ∷ list) 0 → (i : ℕ) → i < suc found.0 → gap (s ∷ t ∷ list) (suc found.0) < gap (s ∷ t ∷ list) i
    before l zero j = l
    before l (suc i) j = found.1.first i (omega arith)

    here : gap (s ∷ t ∷ list) 0 ≤ gap (t ∷ list) found.0 → (i : ℕ) → i < length (s ∷ t ∷ list) → gap (s ∷ t ∷ list) 0 ≤ gap (s ∷ t ∷ list) i
    here l zero j = omega arith
    here l (suc i) j = let m = found.1.least i (omega arith) in omega arith

least : (s : StoredCandidate) (list : List StoredCandidate) → (place : ℕ) × IsMostBalanced (s ∷ list) place
least s [] = grind arith
least s (t ∷ list) = least-more s t list (least t list)

balanced-stored : (s : List StoredCandidate) → 0 < length s → (place : ℕ) × IsMostBalanced s place
balanced-stored [] l = absurd (omega arith)
balanced-stored (s ∷ list) l = least s list

balanced-some : PicksSome (λ list k place. PicksBalanced list place)
balanced-some list k some =
    let s = stored list in
    let long = length-map s.0 candidate_of in
    let same = ap length s.1 in
    let b = balanced-stored s.0 (omega arith) in
    (b.0, record { stored = s.0; shows = s.1; balanced = b.1 }, let h = b.1.held in omega arith)

pub named-some : (order : NamedOrder) → PicksSome (NamedPicks order)
named-some First list k some = (0, refl, some)
named-some Last list k some = (length list - 1, refl, omega arith)
named-some Balanced list k some = balanced-some list k some

pub script-some : (picks : List ℕ) → PicksSome (ScriptPicks picks)
script-some picks list k some = grind arith
