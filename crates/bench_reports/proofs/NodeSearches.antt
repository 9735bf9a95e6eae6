-- The search for a node of a tree by its number: the steps of a path as they grow, and what is
-- found below a cut is found in the tree of the cut.
use Rattle.move_text.proofs.from_counting.Common.{◌≡◌, ◌∙◌, ◌≤◌, ◌<◌, ℕ, zero, suc, ◌+◌, ◌||◌, ◌==◌, Bool, true, List, [], ◌∷◌, ◌++◌, Option, refl, sym, ap, subst, append_assoc, if◌then◌else◌, arith, Set, append-nil, nat_tests}
use Rattle.tree_core.proofs.Common.{Shape, cut, node_count}
use Rattle.tree_core.specs.declared.path.Side.{Side}
use Rattle.tree_core.specs.declared.path.Side.TheVariants.{Kept, Merged}
use Rattle.refusals.specs.declared.places.NodePlace.{NodePlace}
use Rattle.bench_outcomes.specs.Common.{IsPlaceAt, steps_to}
use Rattle.bench_reports.specs.NodeSearch.{IsFoundPlace}
use Rattle.bench_reports.specs.declared.node_places.Sought.{Sought}
use Rattle.bench_reports.specs.declared.node_places.Sought.TheVariants.{Found, Beyond}

-- a path depends on its steps alone
steps-same : (x y : Set) (depth : ℕ) → ((step : ℕ) → step ≤ depth → x step ≡ y step) → steps_to x depth ≡ steps_to y depth
steps-same x y zero same = refl
steps-same x y (suc step) same =
    ap (λ (l : List Side). l ++ ((if x (suc step) then Merged else Kept) ∷ [])) (steps-same x y step (λ i less. same i (omega arith)))
    ∙ ap (λ (b : Bool). steps_to y step ++ ((if b then Merged else Kept) ∷ [])) (same (suc step) (omega arith))

-- the steps of a path, none of them after its depth
abbrev pub AreStepsOf : Set → ℕ → List Side → Type 0
AreStepsOf merged depth path = (steps_to merged depth ≡ path) × (depth ≤ 128) × ((step : ℕ) → merged step ≡ true → step ≤ depth)

steps-merged_suc : (merged more : Set) (depth : ℕ) (path : List Side) → depth < 128 → AreStepsOf merged depth path → ((step : ℕ) → more step ≡ (merged step || suc depth == step)) →
    AreStepsOf more (suc depth) (path ++ (Merged ∷ []))
steps-merged_suc merged more depth path less are is = (
  ap (λ (b : Bool). steps_to more depth ++ ((if b then Merged else Kept) ∷ [])) last ∙ ap (λ (l : List Side). l ++ (Merged ∷ [])) (steps-same more merged depth before ∙ are.0),
  omega (arith, less),
  λ step in_more. within step in_more,
)
  where
    last : more (suc depth) ≡ true
    last = grind (arith, is (suc depth), nat_tests)

    before : (step : ℕ) → step ≤ depth → more step ≡ merged step
    before step few = grind (arith, is step, nat_tests)

    within : (step : ℕ) → more step ≡ true → step ≤ suc depth
    within step in_more = grind (arith, is step, nat_tests, are.2 step)

pub steps-merged : (merged more : Set) (depth : ℕ) (path : List Side) → depth < 128 → AreStepsOf merged depth path → ((step : ℕ) → more step ≡ (merged step || depth + 1 == step)) →
    AreStepsOf more (depth + 1) (path ++ (Merged ∷ []))
steps-merged merged more depth path less are is =
    let next : suc depth ≡ depth + 1 = omega arith in
    subst (λ (d : ℕ). AreStepsOf more d (path ++ (Merged ∷ []))) next
    (steps-merged_suc merged more depth path less are (λ step. is step ∙ ap (λ (d : ℕ). merged step || d == step) (sym next)))

-- the root is found
pub found-here : (path : List Side) (t : Shape) (number : ℕ) (place : Option NodePlace) → number ≡ 1 → IsPlaceAt path t place → IsFoundPlace path t number (Found place)
found-here path t number place is at = grind (arith, append-nil path)

-- what is found in a tree below a cut
pub found-kept : (path : List Side) (x : List ℕ) (kept merged : Shape) (number before : ℕ) (place : Option NodePlace) → number ≡ suc before → IsFoundPlace (path ++ (Kept ∷ [])) kept before (Found place) →
    IsFoundPlace path (cut x kept merged) number (Found place)
found-kept path x kept merged number before place is found = grind (arith, append_assoc path (Kept ∷ []))

pub found-merged : (path : List Side) (x : List ℕ) (kept merged : Shape) (number before left : ℕ) (sought : Sought) → number ≡ suc before → before ≡ node_count kept + left →
    IsFoundPlace (path ++ (Merged ∷ [])) merged left sought → IsFoundPlace path (cut x kept merged) number sought
found-merged path x kept merged number before left (Found place) is past found = grind (arith, append_assoc path (Merged ∷ []))
found-merged path x kept merged number before left (Beyond rest) is past found = tt
