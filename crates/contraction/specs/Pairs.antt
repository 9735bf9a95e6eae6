-- Lists of pairs of vertices, the pairs that edges join, and the places of vertices in blocks.
-- Stated by: contraction.
use Rattle.std.specs.Prelude.{◌≡◌, ◌<◌, ◌-◌, ℕ, List, length, filter, slice_index, slice_index_or}
use Rattle.graph_core.specs.from_counting.Common.{Within, some, rising_pairs}
use Rattle.graph_core.specs.Common.{Graph, has_ends, place, size}

-- no pair occurs twice
abbrev pub EachOnce : List (ℕ × ℕ) → Type 0
EachOnce ks = (i j : ℕ) → i < j → j < length ks → slice_index_or ks i (0, 0) ≡ slice_index_or ks j (0, 0) → ⊥

-- the pairs a < b of vertices that some edge joins, in lexicographic order
unfoldable pub joined_pairs : Graph → List (ℕ × ℕ)
joined_pairs g = filter (λ k. some (size g) (has_ends g k.0 k.1)) (rising_pairs g.order)

-- for each vertex the place of the block that contains it
pub record ArePlaces (p : List (List ℕ)) (places : List ℕ) : Type 0 where
  pub at : (v : ℕ) → Within (length places) v → slice_index places (v - 1) ≡ place p v
