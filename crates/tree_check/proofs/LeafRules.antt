-- What the rule of a leaf shows: there is no candidate at a partition if and only if no nontrivial
-- shore is tight at it.
use Rattle.graph_core.proofs.from_counting.Common.{◌≡◌, ◌⊎◌, ℕ, List, [], ◌∷◌, length, Option, Some, None, unwrap_or, refl, sym, ap, ◌∙◌, arith, inl, inr, Set}
use Rattle.graph_core.proofs.Common.{IsCovered, Graph, IsGraph, IsPartition, quotient, IsTightAt, blocks_in, IsNontrivial}
use Rattle.tight_cuts.proofs.PartitionCandidates.{none-at}
use Rattle.tight_cuts.specs.Common.{Candidate, first_shore, candidates_at}
use Rattle.tree_core.proofs.Common.{IsLeafAt}
use Rattle.tree_check.specs.Common.{BreaksLeaf, Why, not_blocks, even, trivial, not_tight, not_leaf, without_matching}

module _ (g : Graph) (p : List (List ℕ)) (is : IsGraph g) (pp : IsPartition g.order p) (covered : IsCovered (quotient g p)) where
  -- a leaf breaks no rule if no nontrivial shore is tight
  pub broken-not_leaf : (why : Why) → BreaksLeaf g p why → IsLeafAt g p → ⊥
  unfolding IsLeafAt
  broken-not_leaf not_blocks b leaf = b
  broken-not_leaf even b leaf = b
  broken-not_leaf trivial b leaf = b
  broken-not_leaf (not_tight m) b leaf = b
  broken-not_leaf (not_leaf c) b leaf = none_first c (sym (ap first_shore ((none-at g p is pp covered).1 leaf)) ∙ b)
    where
      none_first : (c : List ℕ) → None ≡ Some c → ⊥
      none_first c e = grind (arith, e)

  -- and else one
  pub leaf-or_broken : IsLeafAt g p ⊎ ((why : Why) × BreaksLeaf g p why)
  unfolding IsLeafAt
  leaf-or_broken = go (candidates_at g p) refl
    where
      go : (list : List Candidate) → candidates_at g p ≡ list → ((x : Set) → IsTightAt g p x → IsNontrivial (length p) (blocks_in p x) → ⊥) ⊎ ((why : Why) × BreaksLeaf g p why)
      go [] e = inl ((none-at g p is pp covered).0 e)
      go (c ∷ list) e = inr (not_leaf c.shore, ap first_shore e)

-- a leaf breaks one rule
pub leaf-once : (g : Graph) (p : List (List ℕ)) (a b : Why) → BreaksLeaf g p a → BreaksLeaf g p b → without_matching a ≡ without_matching b
leaf-once g p not_blocks b s t = absurd s
leaf-once g p even b s t = absurd s
leaf-once g p trivial b s t = absurd s
leaf-once g p (not_tight m) b s t = absurd s
leaf-once g p (not_leaf c) not_blocks s t = absurd t
leaf-once g p (not_leaf c) even s t = absurd t
leaf-once g p (not_leaf c) trivial s t = absurd t
leaf-once g p (not_leaf c) (not_tight m) s t = absurd t
leaf-once g p (not_leaf c) (not_leaf d) s t = ap not_leaf (same c d (sym s ∙ t))
  where
    same : (c d : List ℕ) → Some c ≡ Some d → c ≡ d
    same c d e = ap (λ (o : Option (List ℕ)). unwrap_or o []) e
