-- The order of this crate: the first candidate whose cut has the most edges.
-- Stated by: example_order.
use Rattle.std.specs.Prelude.{◌≡◌, ℕ, ◌<◌, ◌≤◌, List, length, map, slice_get, Option, Some, None}
use Rattle.tree_check.specs.from_counting.Common.{count, mem}
use Rattle.graph_core.specs.Common.{Graph, in_cut, size}
use Rattle.tree_check.specs.from_tight_cuts.Common.{Candidate, candidate_of}
use Rattle.tree_check.specs.from_tight_cuts.declared.candidate.Candidate.{Candidate as StoredCandidate}

-- |∂(X)|, where X is the shore of a candidate
abbrev pub width_of : Graph → Option StoredCandidate → ℕ
width_of g None = 0
width_of g (Some c) = count (size g) (in_cut g (mem c.shore))

-- the same for the candidate at a place
abbrev pub width : Graph → List StoredCandidate → ℕ → ℕ
width g list i = width_of g (slice_get list i)

-- the first place whose cut has the most edges
pub record IsWidest (g : Graph) (list : List StoredCandidate) (place : ℕ) : Type 0 where
  pub held : place < length list
  pub most : (i : ℕ) → i < length list → width g list i ≤ width g list place
  pub first : (i : ℕ) → i < place → width g list i < width g list place

-- the order picks this place in this list of candidates, however many cuts come before
pub record PicksWidest (g : Graph) (list : List Candidate) (k place : ℕ) : Type 0 where
  pub stored : List StoredCandidate
  pub shows : map candidate_of stored ≡ list
  pub widest : IsWidest g stored place
