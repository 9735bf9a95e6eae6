-- Steps of a decomposition. A candidate at a partition is a cut there; where an order takes the
-- first candidate, its shore is picked; and a cut with two trees is the tree that the order
-- picks, and a derivation, where both trees are.
use Rattle.graph_core.proofs.from_counting.Common.{◌≡◌, ℕ, ◌+◌, ◌<◌, List, length, map, ◌++◌, append_assoc, All, refl, ap, ap₂, sym, ◌∙◌, arith, subst, slice_get, Option, Some, true, false, ◌==◌, slice_get_within, both_ways, length-map, map-append, get_or_from_slice_get}
use Rattle.graph_core.proofs.Common.{IsCovered, Graph, IsGraph, singles}
use Rattle.tight_cuts.proofs.FirstCandidates.{first-one, first-place}
use Rattle.tight_cuts.proofs.PartitionCandidates.{found-root, root-candidates}
use Rattle.tight_cuts.specs.Common.{Candidate, candidates, first_of, first_shore, IsCandidateAt, candidates_at, candidate_of}
use Rattle.tight_cuts.specs.declared.candidate.Candidate.{Candidate as StoredCandidate}
use Rattle.tree_core.proofs.Common.{IsCutAt, PlaceValue, Shape, cut, kept_at, leaves_at, merged_at, place_of}
use Rattle.decomposer.specs.Common.{NamedPicks, Finds, IsPickedShore, PicksShore, leaf_places}
use Rattle.decomposer.specs.declared.orders.NamedOrder.TheVariants.{First}

-- a candidate is a cut
pub cut-from_candidate : (g : Graph) (p : List (List ℕ)) (c : Candidate) → IsCandidateAt g p c → IsCutAt g p c.shore
cut-from_candidate g p c t = record { set = t.rising; tight = t.tight; nontrivial = t.nontrivial; canonical = t.canonical }

-- and so is the picked one
pub picked-shore : (g : Graph) (p : List (List ℕ)) (stored : List StoredCandidate) (place : ℕ) (c : StoredCandidate) → All (IsCandidateAt g p) (map candidate_of stored) → slice_get (map candidate_of stored) place ≡ Some (candidate_of c) → IsCutAt g p c.shore
picked-shore g p stored place c all is =
    let e : place < length (map candidate_of stored) = slice_get_within (map candidate_of stored) place (candidate_of c) is in
    let v = get_or_from_slice_get (map candidate_of stored) place (candidate_of c) (candidate_of c) is in
    cut-from_candidate g p (candidate_of c) (subst (IsCandidateAt g p) v (all place (candidate_of c) e))

-- the leaves below a cut are those of the one tree and then those of the other
both-places : (g : Graph) (p : List (List ℕ)) (x : List ℕ) (kept merged : Shape) →
    leaf_places g p (cut x kept merged) ≡ leaf_places g (kept_at g.order p x) kept ++ leaf_places g (merged_at g.order p x) merged
both-places g p x kept merged = map-append (place_of g) (leaves_at g.order (kept_at g.order p x) kept) (leaves_at g.order (merged_at g.order p x) merged)

-- and are appended so
appended : (old mid new one two all : List PlaceValue) → mid ≡ old ++ one → new ≡ mid ++ two → all ≡ one ++ two → new ≡ old ++ all
appended old mid new one two all first second both = second ∙ ap (λ (ps : List PlaceValue). ps ++ two) first ∙ append_assoc old one two ∙ ap (λ (ps : List PlaceValue). old ++ ps) (sym both)

-- what is found of a cut, from what is found of the two places below it
module _ (picks : List Candidate → ℕ → ℕ → Type 0) (place q r : PlaceValue) (x : List ℕ) (before between after : ℕ) (t kept merged : Shape) (old mid new : List PlaceValue)
    (is_q : q ≡ place_of place.graph (kept_at place.graph.order place.blocks x)) (is_r : r ≡ place_of place.graph (merged_at place.graph.order place.blocks x)) (is_t : t ≡ cut x kept merged) where
  leaves-listed : leaf_places place.graph place.blocks t ≡ leaf_places q.graph q.blocks kept ++ leaf_places r.graph r.blocks merged
  leaves-listed =
      ap (leaf_places place.graph place.blocks) is_t ∙ both-places place.graph place.blocks x kept merged
      ∙ sym (ap₂ (λ (a b : PlaceValue). leaf_places a.graph a.blocks kept ++ leaf_places b.graph b.blocks merged) is_q is_r)

  pub cut-finds : IsCutAt place.graph place.blocks x → PicksShore picks (candidates_at place.graph place.blocks) before x →
      Finds picks q (before + 1) old kept between mid → Finds picks r between mid merged after new → Finds picks place before old t after new
  cut-finds cuts picked k m = record {
    derives = grind arith;
    picked = grind arith;
    places = appended old mid new (leaf_places q.graph q.blocks kept) (leaf_places r.graph r.blocks merged) (leaf_places place.graph place.blocks t) k.places m.places leaves-listed;
    cuts = grind arith;
  }

-- a list that is not empty has a candidate in store
pub some-stored : (stored : List StoredCandidate) (list : List Candidate) → map candidate_of stored ≡ list → (length list == 0) ≡ false → 0 < length stored
some-stored stored list shows some = grind (arith, length-map stored candidate_of, both_ways true)

pub stored-length : (stored : List StoredCandidate) (list : List Candidate) (place : ℕ) → map candidate_of stored ≡ list → place < length stored → place < length list
stored-length stored list place shows l = let a = length-map stored candidate_of in let e = ap length shows in omega arith

-- where an order takes the first candidate, the shore that the order of the first candidates
-- picks is one that it picks
pub first-picked : (picks : List Candidate → ℕ → ℕ → Type 0) (g : Graph) (p : List (List ℕ)) (k : ℕ) (o : Option (List ℕ)) → ((list : List Candidate) → 0 < length list → picks list k 0) →
    IsPickedShore (NamedPicks First) g p k o → IsPickedShore picks g p k o
first-picked picks g p k o takes is = grind (arith, slice_get_within (candidates_at g p), slice_get (candidates_at g p))

-- the shore of the first candidate of a list that has one
has_first : (list : List Candidate) (x : List ℕ) → first_shore list ≡ Some x → (c : Candidate) × (first_of list ≡ Some c) × (c.shore ≡ x)
has_first list x h = grind arith

-- at single vertices the order of the first candidates picks the shore of the first, a cut there
pub first-shore-picked : (g : Graph) → IsGraph g → IsCovered g → (x : List ℕ) → first_shore (candidates g) ≡ Some x → PicksShore (NamedPicks First) (candidates_at g (singles g.order)) 0 x × IsCutAt g (singles g.order) x
first-shore-picked g is covered x h =
    let c = has_first (candidates g) x h in
    let first : first_of (candidates_at g (singles g.order)) ≡ Some c.0 = ap first_of (root-candidates g) ∙ c.1 in (
      (0, c.0, refl, first-place (candidates_at g (singles g.order)) ∙ first, c.2),
      subst (IsCutAt g (singles g.order)) c.2 (cut-from_candidate g (singles g.order) c.0 (first-one g (IsCandidateAt g (singles g.order)) (candidates_at g (singles g.order)) (found-root g is covered) c.0 first)),
    )
