-- The pieces of a generated graph: K3,3, K4, the triangular prism and the cube, which are cubic
-- and matching covered.
-- Stated by: grow_gen. Used by: bench_outcomes.
use Rattle.std.specs.Prelude.{ℕ, ◌%◌, Bool, true, false, List, [], ◌∷◌, slice_index_or}
use Rattle.graph_core.specs.Common.{Graph}
use Rattle.grow_gen.specs.declared.pieces.Piece.{Piece}
use Rattle.grow_gen.specs.declared.pieces.Piece.TheVariants.{K33, K4, Prism, Cube}

-- the number of vertices of a piece
abbrev pub piece_order : Piece → ℕ
piece_order K33 = 6
piece_order K4 = 4
piece_order Prism = 6
piece_order Cube = 8

-- the edges of a piece, in the order of their numbers
abbrev pub piece_ends : Piece → List (ℕ × ℕ)
piece_ends K33 = (1, 4) ∷ (1, 5) ∷ (1, 6) ∷ (2, 4) ∷ (2, 5) ∷ (2, 6) ∷ (3, 4) ∷ (3, 5) ∷ (3, 6) ∷ []
piece_ends K4 = (1, 2) ∷ (1, 3) ∷ (1, 4) ∷ (2, 3) ∷ (2, 4) ∷ (3, 4) ∷ []
piece_ends Prism = (1, 2) ∷ (1, 3) ∷ (2, 3) ∷ (4, 5) ∷ (4, 6) ∷ (5, 6) ∷ (1, 4) ∷ (2, 5) ∷ (3, 6) ∷ []
piece_ends Cube = (1, 2) ∷ (2, 3) ∷ (3, 4) ∷ (1, 4) ∷ (5, 6) ∷ (6, 7) ∷ (7, 8) ∷ (5, 8) ∷ (1, 5) ∷ (2, 6) ∷ (3, 7) ∷ (4, 8) ∷ []

-- a piece as a graph
abbrev pub piece_graph : Piece → Graph
piece_graph p = record { order = piece_order p; ends = piece_ends p }

-- K3,3 and the cube are bipartite
abbrev pub is_bipartite_piece : Piece → Bool
is_bipartite_piece K33 = true
is_bipartite_piece K4 = false
is_bipartite_piece Prism = false
is_bipartite_piece Cube = true

-- the vertices 2 and on of a bipartite piece that are on the side of the neighbours of vertex 1,
-- or on the side of vertex 1; none of a piece that is not bipartite
abbrev pub side : Piece → Bool → List ℕ
side K33 true = 4 ∷ 5 ∷ 6 ∷ []
side K33 false = 2 ∷ 3 ∷ []
side K4 opposite = []
side Prism opposite = []
side Cube true = 2 ∷ 4 ∷ 5 ∷ 7 ∷ []
side Cube false = 3 ∷ 6 ∷ 8 ∷ []

-- piece i after the first, counted from 0: K4, K3,3, prism, cube, and so on
abbrev pub further_piece : ℕ → Piece
further_piece i = slice_index_or (K4 ∷ K33 ∷ Prism ∷ Cube ∷ []) (i % 4) K4
