-- The first pair of a list that cannot be an edge of a graph, and why.
-- Stated by: plain_graph.
use Rattle.std.specs.Prelude.{◌≢◌, ℕ, ◌<◌, ◌≤◌, List, length, slice_index_or}
use Rattle.allowed_edges.specs.from_counting.Common.{Within}

-- the pair at place k, counted from 0
abbrev pub pair_at : List (ℕ × ℕ) → ℕ → ℕ × ℕ
pair_at es k = slice_index_or es k (0, 0)

-- the pair is two different vertices of 1 to n
pub record JoinsTwo (n : ℕ) (e : ℕ × ℕ) : Type 0 where
  pub first : Within n e.0
  pub second : Within n e.1
  pub different : e.0 ≢ e.1

-- the list has a pair at place k, and those before it are edges of one graph with n vertices
pub record IsReachedPair (n : ℕ) (es : List (ℕ × ℕ)) (k : ℕ) : Type 0 where
  pub place : k < length es
  pub before : (j : ℕ) → j < k → JoinsTwo n (pair_at es j)
  pub few : k ≤ 2048
