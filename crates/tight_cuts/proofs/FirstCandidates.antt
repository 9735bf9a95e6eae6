-- The first candidate stays while edges add more, and edges in the cut of a candidate add none.
-- Idea: an edge leaves the list or appends to it.
use Rattle.graph_core.proofs.from_counting.Common.{◌≡◌, ℕ, suc, zero, ◌≤◌, refl, sym, ap, ◌∙◌, arith, List, [], Option, Some, None, map, slice_get, inl, inr, ◌↔◌, All, option_map, cases_eq, Within}
use Rattle.graph_core.proofs.Common.{Graph, size}
use Rattle.tight_cuts.proofs.EdgeLoop.{after_edges, after_suc}
use Rattle.tight_cuts.proofs.FrontCandidates.{edges-all}
use Rattle.tight_cuts.specs.Common.{Candidate, candidates, first_of, front_candidates, with_edge_cut, candidate_of}
use Rattle.tight_cuts.specs.declared.candidate.Candidate.{Candidate as StoredCandidate}

-- the first candidate is that at place 0
pub first-place : (list : List Candidate) → slice_get list 0 ≡ first_of list
first-place list = grind arith

-- the list without a first candidate is empty
pub first-nil : (list : List Candidate) → None ≡ first_of list → list ≡ []
first-nil list q = grind arith

first-edge_more : (g : Graph) (list : List Candidate) (e : ℕ) (c : Candidate) → first_of list ≡ Some c → first_of (with_edge_cut g list e) ≡ Some c
first-edge_more g list e c h = grind arith

-- the first candidate after some edges is that after more
first-later : (g : Graph) (list : List Candidate) (k m : ℕ) → k ≤ m → (c : Candidate) → first_of (after_edges g list k) ≡ Some c → first_of (after_edges g list m) ≡ Some c
first-later g list k zero l c h = let z : k ≡ zero = omega arith in ap (λ i. first_of (after_edges g list i)) (sym z) ∙ h
first-later g list k (suc m) l c h = elim (cases_eq k (suc m)) [
  | inl q ↦ ap (λ i. first_of (after_edges g list i)) (sym q) ∙ h
  | inr q ↦ ap first_of (after_suc g list m) ∙ first-edge_more g (after_edges g list m) (suc m) c (first-later g list k m (omega arith) c h)
]

-- the first candidate after some edges is the first of all
pub first-candidates : (g : Graph) (list : List Candidate) (k : ℕ) → k ≤ size g → list ≡ after_edges g (front_candidates g) k → (c : Candidate) → slice_get list 0 ≡ Some c → first_of (candidates g) ≡ Some c
unfolding candidates
first-candidates g list k l h c q = first-later g (front_candidates g) k (size g) l c (ap first_of (sym h) ∙ sym (first-place list) ∙ q)

-- so is the first of the first two parts
pub first-front : (g : Graph) (c : Candidate) → first_of (front_candidates g) ≡ Some c → first_of (candidates g) ≡ Some c
unfolding candidates
first-front g c h = first-later g (front_candidates g) 0 (size g) (omega arith) c h

-- edges that each give nothing add nothing
pub edges-known : (g : Graph) (list : List Candidate) (k : ℕ) → ((e : ℕ) → Within k e → list ≡ with_edge_cut g list e) → list ≡ after_edges g list k
edges-known g list zero h = refl
edges-known g list (suc k) h = h (suc k) (omega arith, omega arith) ∙ ap (λ l. with_edge_cut g l (suc k)) (edges-known g list k (λ e w. h e (omega arith))) ∙ sym (after_suc g list k)

-- if some edges have given nothing and no edge is left, there is no candidate
pub first-none : (g : Graph) (list : List Candidate) (k : ℕ) → k ≡ size g → list ≡ after_edges g (front_candidates g) k → list ≡ [] → None ≡ first_of (candidates g)
first-none g list k q h z = ap first_of (sym z ∙ edges-all g list k q h)

-- the first candidate is one of them
pub first-one : (g : Graph) (P : Candidate → Type 0) (list : List Candidate) → All P list → (c : Candidate) → first_of list ≡ Some c → P c
first-one g P list a c h = grind arith

-- no first candidate is answered exactly when there is no candidate
pub first-empty : (list : List Candidate) (found : Option StoredCandidate) (Q : Type 0) → ((list ≡ []) ↔ Q) → option_map candidate_of found ≡ first_of list → (found ≡ None) ↔ Q
first-empty list found Q h q = grind arith

-- the first of the candidates taken to vertices of the graph
pub first-lifted : (f : Candidate → Candidate) (list : List Candidate) (o : Option Candidate) → o ≡ first_of list → option_map f o ≡ first_of (map f list)
first-lifted f list o q = grind arith
