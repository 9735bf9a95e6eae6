-- Ears of a stage f: paths of odd length outside f between two vertices of f, no inner vertex of
-- which f meets.
-- Stated by: ear_core, mcg6_lines, theorems.
use Rattle.std.specs.Prelude.{◌≡◌, ◌≢◌, ℕ, ◌≤◌, true, false, List, [], ◌∷◌, ◌==◌, ◌||◌, cond, length}
use Rattle.graph_core.specs.from_counting.Common.{Within, is_odd, Set, mem, times}
use Rattle.graph_core.specs.Common.{Graph, size, first_end, second_end}
use Rattle.ear_core.specs.Stages.{is_met}

-- the end of edge e other than v
abbrev pub other_end : Graph → ℕ → ℕ → ℕ
other_end g e v = cond (first_end g e == v) (second_end g e) (first_end g e)

-- the edges follow one another from v: each is an edge of g, and is at the vertex where those
-- before it end
abbrev pub Follow : Graph → ℕ → List ℕ → Type 0
Follow g v [] = Unit {0}
Follow g v (e ∷ es) = (Within (size g) e × ((first_end g e == v || second_end g e == v) ≡ true)) × Follow g (other_end g e v) es

-- the vertices along the edges, v the first
abbrev pub trail : Graph → ℕ → List ℕ → List ℕ
trail g v [] = v ∷ []
trail g v (e ∷ es) = v ∷ trail g (other_end g e v) es

-- the last of them
abbrev pub last_vertex : Graph → ℕ → List ℕ → ℕ
last_vertex g v [] = v
last_vertex g v (e ∷ es) = last_vertex g (other_end g e v) es

-- an ear of f, from v along the edges es
pub record IsEar (g : Graph) (f : Set) (v : ℕ) (es : List ℕ) : Type 0 where
  pub follow : Follow g v es
  pub once : (w : ℕ) → times (trail g v es) w ≤ 1
  pub odd : is_odd (length es) ≡ true
  pub start : is_met g f v ≡ true
  pub end : is_met g f (last_vertex g v es) ≡ true
  pub inner : (w : ℕ) → mem (trail g v es) w ≡ true → w ≢ v → w ≢ last_vertex g v es → is_met g f w ≡ false
  pub new : (e : ℕ) → mem es e ≡ true → f e ≡ false

-- two ears of f without a common inner vertex and without a common edge: a vertex of both is one
-- that f meets
pub record IsEarPair (g : Graph) (f : Set) (v : ℕ) (es : List ℕ) (w : ℕ) (ds : List ℕ) : Type 0 where
  pub first : IsEar g f v es
  pub second : IsEar g f w ds
  pub vertices : (x : ℕ) → mem (trail g v es) x ≡ true → mem (trail g w ds) x ≡ true → is_met g f x ≡ true
  pub edges : (e : ℕ) → mem es e ≡ true → mem ds e ≡ false
