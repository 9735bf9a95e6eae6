-- The candidates at a partition: each is a candidate there, and there is none exactly when no
-- nontrivial shore is tight. Idea: they are those of the graph itself, or those of the quotient
-- led back. At single vertices of a covered graph they are its own.
use Rattle.graph_core.proofs.from_counting.Common.{◌≡◌, ◌↔◌, All, List, [], length, sym, subst, inl, inr, ℕ, arith, cases_eq, Set}
use Rattle.graph_core.proofs.Common.{quotient_graph, length-singles, singles-partition, IsCovered, Graph, IsGraph, IsPartition, singles, quotient, IsTightAt, blocks_in, IsNontrivial}
use Rattle.tight_cuts.proofs.Completeness.{candidates_found, candidates_none}
use Rattle.tight_cuts.proofs.LiftedCandidates.{at-blocks, at-vertices, covered-single, quotient-found, quotient-none, singles-found, singles-none}
use Rattle.tight_cuts.specs.Common.{Candidate, candidates, IsCandidateAt, candidates_at}

module _ (g : Graph) (p : List (List ℕ)) (is : IsGraph g) (pp : IsPartition g.order p) (covered : IsCovered (quotient g p)) where
  pub found-at : All (IsCandidateAt g p) (candidates_at g p)
  found-at = elim (cases_eq (length p) g.order) [
    | inl e ↦ subst (All (IsCandidateAt g p)) (sym (at-vertices g p e)) (singles-found g is p pp e (candidates g) (candidates_found g is (covered-single g p is pp e covered)))
    | inr d ↦ subst (All (IsCandidateAt g p)) (sym (at-blocks g p d)) (quotient-found g p is pp (candidates (quotient g p)) (candidates_found (quotient g p) (quotient_graph g p is pp.partition) covered))
  ]

  pub none-at : (candidates_at g p ≡ []) ↔ ((x : Set) → IsTightAt g p x → IsNontrivial (length p) (blocks_in p x) → ⊥)
  none-at = elim (cases_eq (length p) g.order) [
    | inl e ↦ subst (λ (list : List Candidate). (list ≡ []) ↔ ((x : Set) → IsTightAt g p x → IsNontrivial (length p) (blocks_in p x) → ⊥)) (sym (at-vertices g p e))
        (singles-none g is p pp e (candidates g) (candidates_none g is (covered-single g p is pp e covered)))
    | inr d ↦ grind (arith, at-blocks, quotient-none, candidates_none, quotient_graph)
  ]

-- at single vertices
pub root-candidates : (g : Graph) → candidates_at g (singles g.order) ≡ candidates g
root-candidates g = at-vertices g (singles g.order) (length-singles g.order)

module _ (g : Graph) (is : IsGraph g) (covered : IsCovered g) where
  pub found-root : All (IsCandidateAt g (singles g.order)) (candidates_at g (singles g.order))
  found-root = subst (All (IsCandidateAt g (singles g.order))) (sym (root-candidates g))
      (singles-found g is (singles g.order) (singles-partition g.order) (length-singles g.order) (candidates g) (candidates_found g is covered))
