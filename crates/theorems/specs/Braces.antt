-- Neighbourhoods, 2-extendability, and the digraph of a perfect matching (Plummer 1980, 1986;
-- Lovász and Plummer, "Matching Theory").
-- Stated by: theorems.
use Rattle.std.specs.Prelude.{◌≡◌, ◌≢◌, ℕ, ◌+◌, ◌≤◌, Bool, ◌==◌, ◌&&◌, not, true, List}
use Rattle.tree_check.specs.from_counting.Common.{Within, count, Set, none, some}
use Rattle.graph_core.specs.Common.{Graph, size, IsEnd, Together, Walk, adjacent}
use Rattle.quick_kinds.specs.from_matching_digraph.Digraph.{arc}

-- the vertices that edges join to a vertex of s
abbrev pub neighbourhood : Graph → Set → Set
neighbourhood g s v = some g.order (λ u. s u && adjacent g none u v)

-- each set of 1 to |a| - 2 vertices of the side a has at least two neighbours more than vertices
abbrev pub HasWideNeighbourhoods : Graph → Set → Type 0
HasWideNeighbourhoods g a = (s : Set) → ((v : ℕ) → Within g.order v → s v ≡ true → a v ≡ true) → 1 ≤ count g.order s → count g.order s + 2 ≤ count g.order a → count g.order s + 2 ≤ count g.order (neighbourhood g s)

-- any two edges without a common end are together in a perfect matching. A 2-extendable graph
-- (Plummer) is one of which this holds that is also connected, has a perfect matching, and has at
-- least six vertices
abbrev pub IsTwoExtendable : Graph → Type 0
IsTwoExtendable g = (e f : ℕ) → Within (size g) e → Within (size g) f → ((v : ℕ) → Within g.order v → IsEnd g e v → IsEnd g f v → ⊥) → Together g e f

-- a step of a digraph that neither begins nor ends at a or b
abbrev pub step_without : (a b : ℕ) → (ℕ → ℕ → Bool) → ℕ → ℕ → Bool
step_without a b adj u v = (not (a == u) && not (b == u)) && (not (a == v) && not (b == v)) && adj u v

-- the digraph of the matching m, without the vertices a and b, is strongly connected: a walk leads
-- from each of its vertices to each other
abbrev pub IsStrongWithout : Graph → (x m : Set) → (a b : ℕ) → Type 0
IsStrongWithout g x m a b = (u v : ℕ) → Within g.order u → Within g.order v → u ≢ a → u ≢ b → v ≢ a → v ≢ b → (ws : List ℕ) × Walk (step_without a b (arc g x m)) u ws v
