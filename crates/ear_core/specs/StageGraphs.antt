-- The graph that the engine is asked about: the vertices of g with the edges of a stage alone,
-- which get numbers of their own in the order of those in g.
-- Stated by: ear_core. Used by: theorems.
use Rattle.std.specs.Prelude.{◌≡◌, ◌<◌, ◌≤◌, ℕ, zero, suc, true, List, [], ◌∷◌, ◌++◌, ◌&&◌, ◌||◌, ◌==◌, cond, Option, Some, None}
use Rattle.graph_core.specs.from_counting.Common.{count, Within, Set}
use Rattle.graph_core.specs.Common.{Graph, size, first_end, second_end}
use Rattle.ear_core.specs.Stages.{AllowedBy}

-- the ends of the edges of f among the first k
abbrev pub listed : Graph → Set → ℕ → List (ℕ × ℕ)
listed g f zero = []
listed g f (suc k) = cond (f (suc k)) (listed g f k ++ (first_end g (suc k), second_end g (suc k)) ∷ []) (listed g f k)

-- the edges of f that m has by rank
abbrev pub by_rank : Set → Set → Set
by_rank f m e = f e && m (count e f)

-- of the edges of `asked` none below the least known one lies in no perfect matching of the graph
-- of f; that one does
abbrev pub Settled : Graph → Set → Set → Option ℕ → Type 0
Settled g f asked None = (e : ℕ) → Within (size g) e → asked e ≡ true → AllowedBy g f e
Settled g f asked (Some d) =
    Within (size g) d × (f d ≡ true) × (AllowedBy g f d → ⊥) × ((e : ℕ) → Within (size g) e → asked e ≡ true → e < d → AllowedBy g f e)

-- e as well
abbrev pub asked_too : Set → ℕ → Set
asked_too asked e w = asked w || (e == w)

-- an edge up to e is known
abbrev pub IsUpTo : ℕ → Option ℕ → Type 0
IsUpTo e None = ⊥
IsUpTo e (Some d) = d ≤ e

-- no edge up to e is known
abbrev pub IsBehind : ℕ → Option ℕ → Type 0
IsBehind e None = Unit {0}
IsBehind e (Some d) = e < d
