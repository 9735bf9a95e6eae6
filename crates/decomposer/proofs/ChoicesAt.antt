-- The candidates at a place of a graph are a choice in this graph; a tree that one rule picks is one
-- that every wider rule picks; and so is one that a function picks which follows a rule.
use Rattle.std.specs.Borrow.{Bor}
use Rattle.std.specs.Prelude.{IfOk, Result}
use Rattle.graph_core.proofs.from_counting.Common.{◌≡◌, ℕ, ◌+◌, ◌^◌, ◌<◌, ◌≤◌, List, length, map, All, IfOk-weaker, ap, arith, complement, count, count_le, get_or, get_or-map, length-map, mem, sym, subst}
use Rattle.graph_core.proofs.Common.{Graph, blocks_in, singles}
use Rattle.tight_cuts.specs.Common.{Candidate, IsCandidateAt, candidate_of}
use Rattle.tight_cuts.specs.declared.candidate.Candidate.{Candidate as StoredCandidate}
use Rattle.tree_core.proofs.Common.{Shape, cut, cut_count, kept_at, leaf, merged_at, shape_of}
use Rattle.tree_core.specs.declared.tree.Tree.{Tree}
use Rattle.decomposer.specs.Common.{IsChoice, IsPicked, IsPickedAt, IsStoredIn, PicksReturned}

-- a candidate at a place with at most 128 blocks is one that code can hold
stored-at : (g : Graph) (p : List (List ℕ)) → length p ≤ 128 → (c : StoredCandidate) → IsCandidateAt g p (candidate_of c) → IsStoredIn g.order c
stored-at g p few c is =
    let inside : c.inside ≡ count (length p) (blocks_in p (mem c.shore)) = is.inside in
    let outside : c.outside ≡ count (length p) (complement (blocks_in p (mem c.shore))) = is.outside in
    let a = count_le (length p) (blocks_in p (mem c.shore)) in
    let b = count_le (length p) (complement (blocks_in p (mem c.shore))) in
    record { shore = is.rising; inside = omega arith; outside = omega arith }

-- the candidates at a place, of which there is one, are a choice
pub choice-at : (g : Graph) (p : List (List ℕ)) (stored : List StoredCandidate) (list : List Candidate) (cuts : ℕ) → length p ≤ 128 → map candidate_of stored ≡ list → All (IsCandidateAt g p) list →
    0 < length stored → length stored < 2 ^ 64 → cuts < 2 ^ 64 → IsChoice g.order stored cuts
choice-at g p stored list cuts few shows each some fits counted = record {
  some = some;
  fits = fits;
  counted = counted;
  stored = λ k d l.
      let within : k < length list = omega (arith, length-map stored candidate_of, ap length shows) in
      stored-at g p few (get_or stored k d)
      (subst (IsCandidateAt g p) (get_or-map candidate_of stored k d (candidate_of d) l)
      (subst (λ (cs : List Candidate). IsCandidateAt g p (get_or cs k (candidate_of d))) (sym shows) (each k (candidate_of d) within)));
}

-- a tree that one rule picks at a place is one that a wider rule picks there
picked-wider_at : (picks wider : List Candidate → ℕ → ℕ → Type 0) → ((list : List Candidate) (k place : ℕ) → picks list k place → wider list k place) →
    (g : Graph) (p : List (List ℕ)) (k : ℕ) (t : Shape) → IsPickedAt picks g p k t → IsPickedAt wider g p k t
picked-wider_at picks wider is_wider g p k leaf is = is
picked-wider_at picks wider is_wider g p k (cut x kept merged) is = (
  (is.0.0, is.0.1, is_wider _ k is.0.0 is.0.2, is.0.3, is.0.4),
  picked-wider_at picks wider is_wider g (kept_at g.order p x) (k + 1) kept is.1,
  picked-wider_at picks wider is_wider g (merged_at g.order p x) (k + 1 + cut_count kept) merged is.2,
)

-- and so of the tree that is picked from the graph
pub picked-wider : (picks wider : List Candidate → ℕ → ℕ → Type 0) → ((list : List Candidate) (k place : ℕ) → picks list k place → wider list k place) →
    (g : Graph) (t : Shape) → IsPicked picks g t → IsPicked wider g t
picked-wider picks wider is_wider g t is = picked-wider_at picks wider is_wider g (singles g.order) 0 t is

-- a function follows a rule if at each choice the rule picks each place that the function may return;
-- then the tree of the function is one of the rule
pub picked-follows : {E : Type 0} (r : Result Tree E) (g : Graph) (post : Bor (List StoredCandidate) → ℕ → ℕ → Type 0) (rule : List Candidate → ℕ → ℕ → Type 0) →
    ((shown : Bor (List StoredCandidate)) (cuts place : ℕ) → IsChoice g.order shown.now cuts → post shown cuts place → rule (map candidate_of shown.now) cuts place) →
    IfOk r (λ t. IsPicked (PicksReturned g.order post) g (shape_of t)) → IfOk r (λ t. IsPicked rule g (shape_of t))
picked-follows r g post rule follows =
    IfOk-weaker r (λ (t : Tree). IsPicked (PicksReturned g.order post) g (shape_of t)) (λ (t : Tree). IsPicked rule g (shape_of t))
    (λ t. picked-wider (PicksReturned g.order post) rule
    (λ list k place is. subst (λ (cs : List Candidate). rule cs k place) is.shows (follows is.shown k place is.choice is.returned)) g (shape_of t))
