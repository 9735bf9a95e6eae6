-- The two sides of a bipartite graph. Any textbook; but the left side is fixed: it contains the
-- least vertex of each component.
-- Stated by: graph_core, graph_facts, matching_digraph, quick_kinds, tight_cuts and 2 more.
-- Used by: barrier_kit, separation_kit, ear_core.
use Rattle.std.specs.Prelude.{◌≡◌, ◌≢◌, ℕ, true, List}
use Rattle.vset_core.specs.from_counting.Common.{Within, Set, none, mem, IsRisingIn}
use Rattle.graph_core.specs.Components.{is_least}
use Rattle.graph_core.specs.Graph.{Graph, size, first_end, second_end, in_cut}
use Rattle.graph_core.specs.Walks.{IsOddClosedWalk}
use Rattle.graph_core.specs.declared.sides.Sides.{Sides}
use Rattle.graph_core.specs.declared.sides.Sides.TheVariants.{Even, Odd}

-- x is one side of g: each edge that is not a loop has one end in x
abbrev pub IsSide : Graph → Set → Type 0
IsSide g x = (e : ℕ) → Within (size g) e → first_end g e ≢ second_end g e → in_cut g x e ≡ true

-- a vertex set as an increasing list: each edge has exactly one end in it, and it contains the
-- least vertex of each component
pub record IsLeftSide (g : Graph) (left : List ℕ) : Type 0 where
  pub rising : IsRisingIn g.order left
  pub cut : (e : ℕ) → Within (size g) e → in_cut g (mem left) e ≡ true
  pub least : (v : ℕ) → Within g.order v → is_least g none v ≡ true → mem left v ≡ true

-- the result is a certificate: the left side of a bipartite graph, or an odd closed walk
abbrev pub AreSides : Graph → Sides → Type 0
AreSides g (Even left) = IsLeftSide g left
AreSides g (Odd walk) = IsOddClosedWalk g walk

-- the result is a left side
abbrev pub IsEven : Sides → Type 0
IsEven (Even left) = Unit {0}
IsEven (Odd walk) = ⊥
