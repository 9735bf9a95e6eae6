-- Walks of G - S, as lists of vertices. Any textbook.
-- Stated by: graph_core, match_core, allowed_edges, graph_facts, barrier_kit and 5 more.
-- Used by: grow_gen, brick_kit, tight_cuts, two_ears, ear_core, graph6_text, mcg6_encoder.
use Rattle.std.specs.Prelude.{◌≡◌, ℕ, zero, suc, Bool, true, List, [], ◌∷◌, ◌++◌, ◌==◌, ◌&&◌, ◌||◌, not, length}
use Rattle.vset_core.specs.from_counting.Common.{is_odd, Set, none, some}
use Rattle.graph_core.specs.Graph.{Graph, size, has_ends}

-- an edge of g - s joins u and v
abbrev pub adjacent : Graph → Set → ℕ → ℕ → Bool
adjacent g s u v = (not (s u) && not (s v)) && some (size g) (has_ends g u v)

-- a walk from u over the vertices of the list ends at v, each step by the test `adj`
abbrev pub Walk : (ℕ → ℕ → Bool) → ℕ → List ℕ → ℕ → Type 0
Walk adj u [] v = u ≡ v
Walk adj u (w ∷ ws) v = (adj u w ≡ true) × Walk adj w ws v

-- a walk of g - s leads from u to v
unfoldable pub Joined : Graph → Set → ℕ → ℕ → Type 0
Joined g s u v = (ws : List ℕ) × Walk (adjacent g s) u ws v

-- a walk of at most k steps leads from u to v, over 1 to n, as a test
abbrev pub reaches : ℕ → (ℕ → ℕ → Bool) → ℕ → ℕ → ℕ → Bool
reaches n adj u zero v = u == v
reaches n adj u (suc k) v = reaches n adj u k v || some n (λ w. reaches n adj u k w && adj w v)

-- the vertices that walks of g - s reach from u, as a test: walks of at most n steps are enough
unfoldable pub joined : Graph → Set → ℕ → Set
joined g s u = reaches g.order (adjacent g s) u g.order

-- the vertices of a closed walk of odd length, the first not repeated at the end
abbrev pub IsOddClosedWalk : Graph → List ℕ → Type 0
IsOddClosedWalk g [] = ⊥
IsOddClosedWalk g (v ∷ vs) = Walk (adjacent g none) v (vs ++ v ∷ []) v × (is_odd (length (v ∷ vs)) ≡ true)
