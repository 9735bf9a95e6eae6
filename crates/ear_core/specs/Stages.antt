-- Stages: the graph of a set F of edges of G has these edges and the vertices that they meet.
-- Edges and vertices keep the numbers that they have in G (Lovász and Plummer, "Matching Theory",
-- chapter 5).
-- Stated by: ear_core, theorems.
use Rattle.std.specs.Prelude.{◌≡◌, ℕ, Bool, true, false, List, ◌==◌, not, ◌&&◌, ◌||◌}
use Rattle.graph_core.specs.from_counting.Common.{Within, Set, some, mem}
use Rattle.graph_core.specs.Common.{Graph, size, degree, has_ends, Walk}

-- an edge of f is at v
abbrev pub is_met : Graph → Set → Set
is_met g f v = not (degree g f v == 0)

-- an edge of f joins u and v
abbrev pub adjacent_by : Graph → Set → ℕ → ℕ → Bool
adjacent_by g f u v = some (size g) (λ e. f e && has_ends g u v e)

-- m is a perfect matching of the graph of f: it lies inside f, and one of its edges is at each
-- vertex that f meets
pub record IsPerfectOf (g : Graph) (f : Set) (m : Set) : Type 0 where
  pub part : (e : ℕ) → Within (size g) e → m e ≡ true → f e ≡ true
  pub once : (v : ℕ) → Within g.order v → is_met g f v ≡ true → degree g m v ≡ 1

-- m is a perfect matching of the graph of f without the vertices r
pub record IsPerfectOff (g : Graph) (f : Set) (r : Set) (m : Set) : Type 0 where
  pub part : (e : ℕ) → Within (size g) e → m e ≡ true → f e ≡ true
  pub once : (v : ℕ) → Within g.order v → is_met g f v ≡ true → r v ≡ false → degree g m v ≡ 1
  pub away : (v : ℕ) → Within g.order v → r v ≡ true → degree g m v ≡ 0

-- some perfect matching of the graph of f contains e
abbrev pub AllowedBy : Graph → Set → ℕ → Type 0
AllowedBy g f e = (m : Set) × IsPerfectOf g f m × (m e ≡ true)

-- the graph of f is matching covered: it has an edge, is connected, and each of its edges lies in
-- a perfect matching
pub record IsStage (g : Graph) (f : Set) : Type 0 where
  pub some_edge : (e : ℕ) × Within (size g) e × (f e ≡ true)
  pub connected : (u v : ℕ) → Within g.order u → Within g.order v → is_met g f u ≡ true → is_met g f v ≡ true → (ws : List ℕ) × Walk (adjacent_by g f) u ws v
  pub allowed : (e : ℕ) → Within (size g) e → f e ≡ true → AllowedBy g f e

-- f and the edges of a list
abbrev pub with_edges : Set → List ℕ → Set
with_edges f es e = f e || mem es e
