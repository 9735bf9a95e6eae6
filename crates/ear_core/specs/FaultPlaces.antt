-- Where the fault of a step shows: at which of its two ears, and at which edge of that ear first.
-- Stated by: ear_core. Used by: bench_outcomes.
use Rattle.std.specs.Prelude.{ℕ, ◌-◌, List, [], ◌∷◌, ◌==◌, ◌&&◌, ◌||◌, not, length, slice_get, is_some, Option, Some, None, if◌then◌else◌, find, option_and_then}
use Rattle.graph_core.specs.from_counting.Common.{Set, mem, none, singleton, union}
use Rattle.graph_core.specs.Common.{Graph}
use Rattle.refusals.specs.declared.places.EarOfTwo.TheVariants.{First, Second}
use Rattle.refusals.specs.declared.places.EarPlace.{EarPlace}
use Rattle.ear_core.specs.Stages.{is_met}
use Rattle.ear_core.specs.Ears.{other_end}
use Rattle.ear_core.specs.EarLists.{PlainEar, PlainStep, one, two, PlainEars, next_stage}
use Rattle.ear_core.specs.EarTests.{PlainWhy, not_path, even_length, bad_ends, inner_on_stage, edge_used, stage_not_covered, ends_early, follows, inner_vertices, is_empty, ear_fault}

-- a walk that began at u has passed the vertices x and is at v: of the edges es that follow, the
-- first that is not at the vertex reached, or leads to a passed vertex, or back to u before the end
abbrev pub astray : Graph → ℕ → Set → ℕ → List ℕ → Option ℕ
astray g u x v [] = None
astray g u x v (e ∷ es) =
    if follows g v (e ∷ []) && not (x (other_end g e v) || (other_end g e v == u && not (is_empty es))) then astray g u (union x (singleton (other_end g e v))) (other_end g e v) es else Some e

-- the edge at the end that is wrong: the first edge if the first vertex is off the stage f, else
-- the last edge
abbrev pub wrong_end : Graph → Set → ℕ → List ℕ → Option ℕ
wrong_end g f v es = if is_met g f v then slice_get es (length es - 1) else slice_get es 0

-- the first edge, walked from v, that leads to an inner vertex in x
abbrev pub entering : Graph → Set → ℕ → List ℕ → Option ℕ
entering g x v [] = None
entering g x v (e ∷ es) = if x (other_end g e v) && not (is_empty es) then Some e else entering g x (other_end g e v) es

-- the edge at which an ear first shows that it fails a test
abbrev pub edge_of_fault : Graph → Set → (xs ds : List ℕ) → ℕ → List ℕ → PlainWhy → Option ℕ
edge_of_fault g f xs ds v es not_path = astray g v none v es
edge_of_fault g f xs ds v es even_length = None
edge_of_fault g f xs ds v es bad_ends = wrong_end g f v es
edge_of_fault g f xs ds v es inner_on_stage = entering g (λ w. is_met g f w || mem xs w) v es
edge_of_fault g f xs ds v es edge_used = find (λ e. f e || mem ds e) es
edge_of_fault g f xs ds v es (stage_not_covered e) = None
edge_of_fault g f xs ds v es (ends_early e) = None

-- the same for the first test that the ear fails
abbrev pub fault_edge : Graph → Set → (xs ds : List ℕ) → ℕ → List ℕ → Option ℕ
fault_edge g f xs ds v es = option_and_then (edge_of_fault g f xs ds v es) (ear_fault g f xs ds v es)

-- no place
abbrev pub nowhere : EarPlace
nowhere = record { ear = None; edge = None }

-- the place in a step of two ears: at the first if it fails a test, else at the second
abbrev pub place_of_two : Graph → Set → PlainEar → PlainEar → EarPlace
place_of_two g f a b =
    if is_some (ear_fault g f [] [] a.begin a.edges) then record { ear = Some First; edge = fault_edge g f [] [] a.begin a.edges }
    else (if is_some (ear_fault g f (inner_vertices g a.begin a.edges) a.edges b.begin b.edges) then record { ear = Some Second; edge = fault_edge g f (inner_vertices g a.begin a.edges) a.edges b.begin b.edges } else nowhere)

-- the place in a step on the stage f
abbrev pub place_in_step : Graph → Set → PlainStep → EarPlace
place_in_step g f (one a) = record { ear = None; edge = fault_edge g f [] [] a.begin a.edges }
place_in_step g f (two a b) = place_of_two g f a b

-- the place in the k-th of the steps from the stage f on, counted from 1
abbrev pub place_from : Graph → Set → List PlainStep → ℕ → EarPlace
place_from g f [] k = nowhere
place_from g f (s ∷ steps) k = if k == 1 then place_in_step g f s else place_from g (next_stage f s) steps (k - 1)

-- the place in the k-th step of a list of ears
abbrev pub fault_place : Graph → PlainEars → ℕ → EarPlace
fault_place g list k = place_from g (singleton list.start) list.steps k
