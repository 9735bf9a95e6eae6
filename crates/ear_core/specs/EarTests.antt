-- The five tests of an ear, in their order, and the first that it fails. They look at lists and
-- at marks alone.
-- Stated by: ear_core. Used by: bench_outcomes, theorems.
use Rattle.std.specs.Prelude.{◌≡◌, ℕ, Bool, true, false, List, [], ◌∷◌, ◌==◌, nat_le, ◌&&◌, ◌||◌, not, length, Option, Some, None, if◌then◌else◌}
use Rattle.graph_core.specs.from_counting.Common.{is_odd, Set, mem}
use Rattle.graph_core.specs.Common.{Graph, size, first_end, second_end}
use Rattle.ear_core.specs.Stages.{is_met}
use Rattle.ear_core.specs.Ears.{other_end, trail, last_vertex}

-- why a step is refused
pub data PlainWhy : Type 0 where
  not_path : PlainWhy
  even_length : PlainWhy
  bad_ends : PlainWhy
  inner_on_stage : PlainWhy
  edge_used : PlainWhy
  stage_not_covered : (edge : ℕ) → PlainWhy
  ends_early : (edge : ℕ) → PlainWhy

-- the edges follow one another from v
abbrev pub follows : Graph → ℕ → List ℕ → Bool
follows g v [] = true
follows g v (e ∷ es) = ((nat_le 1 e && nat_le e (size g)) && (first_end g e == v || second_end g e == v)) && follows g (other_end g e v) es

-- all but the last
abbrev pub front : List ℕ → List ℕ
front [] = []
front (x ∷ []) = []
front (x ∷ y ∷ xs) = x ∷ front (y ∷ xs)

-- the inner vertices of an ear
abbrev pub inner_vertices : Graph → ℕ → List ℕ → List ℕ
inner_vertices g v [] = []
inner_vertices g v (e ∷ es) = front (trail g (other_end g e v) es)

-- some number comes twice
abbrev pub repeats : List ℕ → Bool
repeats [] = false
repeats (x ∷ xs) = mem xs x || repeats xs

-- no number of the list passes the test
abbrev pub no_member : (ℕ → Bool) → List ℕ → Bool
no_member p [] = true
no_member p (x ∷ xs) = not (p x) && no_member p xs

-- the list has no item
abbrev pub is_empty : List ℕ → Bool
is_empty [] = true
is_empty (x ∷ xs) = false

-- the first test: there are edges, they follow one another from v, and no vertex comes twice
-- other than the last equal to the first
abbrev pub is_path : Graph → ℕ → List ℕ → Bool
is_path g v es = not (is_empty es) && (follows g v es && (not (repeats (v ∷ inner_vertices g v es)) && not (mem (inner_vertices g v es) (last_vertex g v es))))

-- the second: their number is odd
abbrev pub has_odd_length : List ℕ → Bool
has_odd_length es = is_odd (length es)

-- the third: the two ends are on the stage f, and differ
abbrev pub has_good_ends : Graph → Set → ℕ → List ℕ → Bool
has_good_ends g f v es = is_met g f v && (is_met g f (last_vertex g v es) && not (v == last_vertex g v es))

-- the fourth: no inner vertex is on the stage f or among xs, the inner vertices of the step's
-- first ear
abbrev pub has_free_inner : Graph → Set → List ℕ → ℕ → List ℕ → Bool
has_free_inner g f xs v es = no_member (λ w. is_met g f w || mem xs w) (inner_vertices g v es)

-- the fifth: no edge is on the stage f or among ds, the edges of the step's first ear
abbrev pub has_new_edges : Set → List ℕ → List ℕ → Bool
has_new_edges f ds es = no_member (λ e. f e || mem ds e) es

-- an ear passes all of them
pub record Passes (g : Graph) (f : Set) (xs ds : List ℕ) (v : ℕ) (es : List ℕ) : Type 0 where
  pub path : is_path g v es ≡ true
  pub odd : has_odd_length es ≡ true
  pub ends : has_good_ends g f v es ≡ true
  pub inner : has_free_inner g f xs v es ≡ true
  pub new : has_new_edges f ds es ≡ true

-- the first test that an ear fails
abbrev pub ear_fault : Graph → Set → (xs ds : List ℕ) → ℕ → List ℕ → Option PlainWhy
ear_fault g f xs ds v es =
    if is_path g v es then (if has_odd_length es then (if has_good_ends g f v es then (if has_free_inner g f xs v es then (if has_new_edges f ds es then None else Some edge_used) else Some inner_on_stage) else Some bad_ends) else Some even_length) else Some not_path
