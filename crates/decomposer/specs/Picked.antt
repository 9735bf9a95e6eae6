-- The tree that an order picks from a graph (Lovász 1987: any order leads to the same leaves, up
-- to multiplicities of edges).
-- Stated by: decomposer, bench_reports, theorems, example_order.
-- Used by: mcg6_lines, bench_outcomes.
use Rattle.std.specs.Prelude.{◌≡◌, ℕ, ◌+◌, ◌++◌, List, [], All, Option, Some, None, map, slice_get, option_map}
use Rattle.graph_core.specs.Common.{Graph, singles}
use Rattle.tight_cuts.specs.Common.{Candidate, first_of, IsCandidateAt, candidates_at, candidate_of}
use Rattle.tight_cuts.specs.declared.candidate.Candidate.{Candidate as StoredCandidate}
use Rattle.tree_core.specs.Common.{IsCutAt, IsDerivationAt, IsLeafAt, PlaceValue, Shape, cut, cut_count, kept_at, leaf, leaves_at, merged_at, place_of}

-- the first candidate at p; none, and p is a leaf, where there is no candidate
pub record IsFirstAt (g : Graph) (p : List (List ℕ)) (found : Option StoredCandidate) : Type 0 where
  pub first : option_map candidate_of found ≡ first_of (candidates_at g p)
  pub some : (c : StoredCandidate) → found ≡ Some c → IsCandidateAt g p (candidate_of c)
  pub leaf : found ≡ None → IsLeafAt g p

-- all candidates at p; there is none, and p is a leaf, where the list is empty
pub record AreCandidatesAt (g : Graph) (p : List (List ℕ)) (list : List Candidate) : Type 0 where
  pub all : list ≡ candidates_at g p
  pub each : All (IsCandidateAt g p) list
  pub leaf : list ≡ [] → IsLeafAt g p

-- the shore is that of the candidate at a place that is picked
abbrev pub PicksShore : (List Candidate → ℕ → ℕ → Type 0) → List Candidate → ℕ → List ℕ → Type 0
PicksShore picks list k x = (place : ℕ) × (c : Candidate) × picks list k place × (slice_get list place ≡ Some c) × (c.shore ≡ x)

-- the shore of the candidate that is picked at p with k cuts before it, a cut there; none, and p
-- is a leaf, where there is no candidate
pub record IsPickedShore (picks : List Candidate → ℕ → ℕ → Type 0) (g : Graph) (p : List (List ℕ)) (k : ℕ) (shore : Option (List ℕ)) : Type 0 where
  pub none : shore ≡ None → candidates_at g p ≡ []
  pub leaf : shore ≡ None → IsLeafAt g p
  pub picked : (x : List ℕ) → shore ≡ Some x → PicksShore picks (candidates_at g p) k x
  pub cut : (x : List ℕ) → shore ≡ Some x → IsCutAt g p x

-- the tree that is picked at p, with k cuts before it in preorder: a leaf if and only if no
-- candidate is there, else the cut of the picked candidate, with the `kept` tree before the
-- `merged` one
abbrev pub IsPickedAt : (List Candidate → ℕ → ℕ → Type 0) → Graph → List (List ℕ) → ℕ → Shape → Type 0
IsPickedAt picks g p k leaf = candidates_at g p ≡ []
IsPickedAt picks g p k (cut x kept merged) =
    PicksShore picks (candidates_at g p) k x
    × IsPickedAt picks g (kept_at g.order p x) (k + 1) kept
    × IsPickedAt picks g (merged_at g.order p x) (k + 1 + cut_count kept) merged

-- the leaves of the tree at p, as places
abbrev pub leaf_places : Graph → List (List ℕ) → Shape → List PlaceValue
leaf_places g p t = map (place_of g) (leaves_at g.order p t)

-- a derivation at a place with so many cuts before it, which is the tree that is picked there; its
-- leaves are appended, and so many cuts stand before what follows it
pub record Finds (picks : List Candidate → ℕ → ℕ → Type 0) (place : PlaceValue) (before : ℕ) (old : List PlaceValue) (t : Shape) (after : ℕ) (new : List PlaceValue) : Type 0 where
  pub derives : IsDerivationAt place.graph place.blocks t
  pub picked : IsPickedAt picks place.graph place.blocks before t
  pub places : new ≡ old ++ leaf_places place.graph place.blocks t
  pub cuts : after ≡ before + cut_count t

-- the tree that is picked from a graph
abbrev pub IsPicked : (List Candidate → ℕ → ℕ → Type 0) → Graph → Shape → Type 0
IsPicked picks g t = IsPickedAt picks g (singles g.order) 0 t
