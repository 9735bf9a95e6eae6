-- What an order may be asked and may answer: a choice, the first balanced place, and the answer of a
-- function.
-- Stated by: decomposer. Used by: mcg6_lines, theorems.
use Rattle.std.specs.Prelude.{◌≡◌, ℕ, ◌-◌, ◌+◌, ◌^◌, ◌<◌, ◌≤◌, All, List, length, map, slice_get, Option, Some, None}
use Rattle.std.specs.Borrow.{Bor}
use Rattle.graph_core.specs.from_counting.Common.{IsRisingIn}
use Rattle.tight_cuts.specs.Common.{Candidate, candidate_of}
use Rattle.tight_cuts.specs.declared.candidate.Candidate.{Candidate as StoredCandidate}

-- how far the sides of a candidate differ in size
abbrev pub gap_of : Option StoredCandidate → ℕ
gap_of None = 0
gap_of (Some c) = (c.inside - c.outside) + (c.outside - c.inside)

-- the same for the candidate at a place
abbrev pub gap : List StoredCandidate → ℕ → ℕ
gap list i = gap_of (slice_get list i)

-- the first place with the least difference between inside and outside
pub record IsMostBalanced (list : List StoredCandidate) (place : ℕ) : Type 0 where
  pub held : place < length list
  pub least : (i : ℕ) → i < length list → gap list place ≤ gap list i
  pub first : (i : ℕ) → i < place → gap list place < gap list i

-- the first place with the least difference between inside and outside, in the list as it is stored
pub record PicksBalanced (list : List Candidate) (place : ℕ) : Type 0 where
  pub stored : List StoredCandidate
  pub shows : map candidate_of stored ≡ list
  pub balanced : IsMostBalanced stored place

-- a candidate that code can hold, in a graph with n vertices: its shore is an increasing list of
-- vertices, and the two numbers fit their types
pub record IsStoredIn (n : ℕ) (c : StoredCandidate) : Type 0 where
  pub shore : IsRisingIn n c.shore
  pub inside : c.inside < 2 ^ 32
  pub outside : c.outside < 2 ^ 32

-- a choice, as a call can get it: at least one candidate in a graph with n vertices, and the number
-- of cuts before the node
pub record IsChoice (n : ℕ) (list : List StoredCandidate) (cuts : ℕ) : Type 0 where
  pub some : 0 < length list
  pub fits : length list < 2 ^ 64
  pub counted : cuts < 2 ^ 64
  pub stored : All (IsStoredIn n) list

-- at each choice in a graph with n vertices the rule may be asked
abbrev pub MayBeAsked : (List StoredCandidate → ℕ → Type 0) → ℕ → Type 0
MayBeAsked can n = (list : List StoredCandidate) (cuts : ℕ) → IsChoice n list cuts → can list cuts

-- at this choice the function may be called, and each place that it may return is one in the list
pub record ReturnsPlace (pre : Bor (List StoredCandidate) → ℕ → Type 0) (post : Bor (List StoredCandidate) → ℕ → ℕ → Type 0) (n : ℕ) (list : List StoredCandidate) (cuts : ℕ) : Type 0 where
  pub choice : IsChoice n list cuts
  pub callable : (shown : Bor (List StoredCandidate)) → shown.now ≡ list → pre shown cuts
  pub in_range : (shown : Bor (List StoredCandidate)) → shown.now ≡ list → (place : ℕ) → post shown cuts place → place < length list

-- a call of the function at this choice, in a graph with n vertices, may return this place
pub record PicksReturned (n : ℕ) (post : Bor (List StoredCandidate) → ℕ → ℕ → Type 0) (list : List Candidate) (cuts place : ℕ) : Type 0 where
  pub shown : Bor (List StoredCandidate)
  pub shows : map candidate_of shown.now ≡ list
  pub choice : IsChoice n shown.now cuts
  pub returned : post shown cuts place
