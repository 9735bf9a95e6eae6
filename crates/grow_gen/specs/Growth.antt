-- The generator: a graph that grows from K3,3 by splices of small cubic graphs, where and how
-- determined by the words of the generator PCG (O'Neill 2014, "PCG: a family of simple fast
-- space-efficient statistically good algorithms for random number generation").
-- Stated by: grow_gen. Used by: bench_outcomes, bench_top, theorems.
use Rattle.std.specs.Prelude.{ℕ, zero, suc, ◌+◌, ◌-◌, ◌%◌, ◌≤◌, ◌<◌, Bool, List, [], ◌∷◌, ◌==◌, ◌&&◌, ◌||◌, not, map, length, slice_index, if◌then◌else◌}
use Rattle.graph_core.specs.from_counting.Common.{union, mem, rising_list, IsRisingIn}
use Rattle.graph_core.specs.Common.{Graph}
use Rattle.rand_pcg.specs.Lcg.{Lcg, started, increment_of}
use Rattle.rand_pcg.specs.Pcg.{pcg32, multiplier_64}
use Rattle.grow_gen.specs.declared.pieces.Piece.{Piece}
use Rattle.grow_gen.specs.declared.pieces.Piece.TheVariants.{K33}
use Rattle.grow_gen.specs.Pieces.{piece_order, piece_graph, is_bipartite_piece, side, further_piece}
use Rattle.grow_gen.specs.Splices.{new_number, permutation, splice}

-- a growing graph, with its skeleton: the vertices where a piece may be spliced, in two classes A
-- and B
pub record Growth : Type 0 where
  pub graph : Graph
  pub in_a : List ℕ
  pub in_b : List ℕ

-- the first piece alone, K3,3 with its two sides as classes
abbrev pub first_growth : Growth
first_growth = record { graph = piece_graph K33; in_a = 1 ∷ 2 ∷ 3 ∷ []; in_b = 4 ∷ 5 ∷ 6 ∷ [] }

-- the vertices where the piece may be spliced, in increasing order: the whole skeleton for a
-- bipartite piece, otherwise class A
abbrev pub eligible : Growth → Piece → List ℕ
eligible s p = if is_bipartite_piece p then rising_list s.graph.order (union (mem s.in_a) (mem s.in_b)) else s.in_a

-- a class without w and with the vertices of one side of the piece, under their new numbers
abbrev pub next_class : ℕ → ℕ → Piece → List ℕ → Bool → List ℕ
next_class n w p class opposite = rising_list (n + piece_order p - 2) (λ v. (mem class v && not (w == v)) || mem (map (new_number n w) (side p opposite)) v)

-- one more piece by its two random words: the first picks the vertex w where it is spliced, the
-- second the permutation; of the vertices of a bipartite piece those opposite to vertex 1 get the
-- class of w, and the others the other class
unfoldable pub with_piece : Growth → Piece → (x y : ℕ) → Growth
with_piece s p x y =
    let w = slice_index (eligible s p) (x % length (eligible s p)) in
    let n = s.graph.order in
    record {
      graph = splice s.graph w (piece_graph p) (permutation (y % 6));
      in_a = next_class n w p s.in_a (mem s.in_a w);
      in_b = next_class n w p s.in_b (mem s.in_b w);
    }

-- so many further pieces from piece i on, two words for each
unfoldable pub growth_from : ℕ → ℕ → Lcg → Growth → Growth
growth_from i zero words s = s
growth_from i (suc n) words s = growth_from (i + 1) n (pcg32 (pcg32 words).1).1 (with_piece s (further_piece i) (pcg32 words).0 (pcg32 (pcg32 words).1).0)

-- the graph of a seed and a number of pieces
unfoldable pub grown : (seed pieces : ℕ) → Graph
grown seed pieces = (growth_from 0 (pieces - 1) (started 64 multiplier_64 seed (increment_of 64 1)) first_growth).graph

-- the conditions for one more piece: its new numbers are at most 128, the classes are sets of
-- vertices, and there is a vertex for the piece
pub record MayTake (s : Growth) (p : Piece) : Type 0 where
  pub room : s.graph.order + piece_order p ≤ 130
  pub in_a : IsRisingIn s.graph.order s.in_a
  pub in_b : IsRisingIn s.graph.order s.in_b
  pub some : 0 < length (eligible s p)
