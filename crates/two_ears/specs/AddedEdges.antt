-- A graph with further edges, whose numbers come after those of its own.
-- Stated by: two_ears, theorems.
use Rattle.std.specs.Prelude.{◌≡◌, ℕ, true, List, [], ◌∷◌, ◌++◌}
use Rattle.graph_core.specs.from_counting.Common.{Within, some}
use Rattle.graph_core.specs.Common.{Graph, size, first_end, second_end, IsGraph, has_ends, with_ends}

-- the list with further pairs at its end
abbrev pub with_pairs : List (ℕ × ℕ) → List (ℕ × ℕ) → List (ℕ × ℕ)
with_pairs es [] = es
with_pairs es (p ∷ ps) = with_pairs es ps ++ p ∷ []

-- g with the edges xs instead of its own has an edge wherever g has one
pub record KeepsEdges (g : Graph) (xs : List (ℕ × ℕ)) : Type 0 where
  pub graph : IsGraph (with_ends g xs)
  pub old : (e : ℕ) → Within (size g) e → some (size (with_ends g xs)) (has_ends (with_ends g xs) (first_end g e) (second_end g e)) ≡ true
