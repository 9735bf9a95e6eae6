-- A leaf and its quotient: a set of blocks is the set of the vertices in them, so no set of
-- blocks is tight and nontrivial in the quotient exactly when no union of blocks is at the
-- partition. And each graph is bipartite or not, since its sets can be looked through.
use Rattle.tree_check.proofs.from_counting.Common.{◌≡◌, ℕ, not, ◌&&◌, ◌||◌, List, length, sym, ap, ap₂, ◌∙◌, subst, inl, inr, ◌⊎◌, All, both_ways, choose_set, every_congr, every_true, true_every, Within, Set, every}
use Rattle.report_text.proofs.from_contraction.QuotientLaws.{tight_at_down, tight_at_up}
use Rattle.graph_core.proofs.Common.{at_rep, rep_place, quotient_graph, quotient-order, nontrivial-same, tight-same, IsCovered, Graph, IsBipartite, IsGraph, first_end, in_cut, second_end, size, AreBlocks, place, quotient, IsUnion, blocks_in, HasOnlyTrivialTightCuts, IsNontrivial}
use Rattle.tree_core.proofs.Common.{covered-leaves, partitions-leaves, uncut-leaves, IsDerivation, IsLeafAt, leaves, Shape}
use Rattle.theorems.specs.CutWords.{EndsInBrickOrBrace}

module _ (g : Graph) (p : List (List ℕ)) (is : IsGraph g) (pp : AreBlocks g.order p) where
  pub leaf-quotient : IsLeafAt g p → HasOnlyTrivialTightCuts (quotient g p)
  unfolding IsLeafAt
  leaf-quotient none x tight nontrivial =
      none y
      (tight_at_down g p is pp y union (tight-same (quotient g p) x (blocks_in p y) (quotient_graph g p is pp) (λ i w. blocks i (subst (λ n. Within n i) (quotient-order g p) w)) tight))
      (nontrivial-same (length p) x (blocks_in p y) blocks (subst (λ n. IsNontrivial n x) (quotient-order g p) nontrivial))
    where
      y : Set
      y v = x (place p v)

      union : IsUnion g.order p y
      union u v wu wv same = ap x same

      blocks : (i : ℕ) → Within (length p) i → x i ≡ blocks_in p y i
      blocks i w = sym (at_rep g.order p pp y union i w ∙ ap x (rep_place g.order p pp i w))

  pub quotient-leaf : HasOnlyTrivialTightCuts (quotient g p) → IsLeafAt g p
  unfolding IsLeafAt
  quotient-leaf none x tight nontrivial =
      none (blocks_in p x) (tight_at_up g p is pp x tight) (subst (λ n. IsNontrivial n (blocks_in p x)) (sym (quotient-order g p)) nontrivial)

-- a graph is bipartite or not
pub bipartite-or : (g : Graph) → IsGraph g → IsBipartite g ⊎ (¬ IsBipartite g)
bipartite-or g is =
    elim (choose_set g.order (λ x. every (size g) (in_cut g x)) (record {
      same = λ x y same.
          every_congr (size g) (in_cut g x) (in_cut g y) (λ e w. ap₂ (λ a b. (a && not b) || (not a && b)) (same (first_end g e) (is e w).0) (same (second_end g e) (is e w).1));
    })) [
      | inl found ↦ inl (found.0, λ e w. every_true (size g) (in_cut g found.0) found.1 e w)
      | inr none ↦ inr (λ sides. both_ways (every (size g) (in_cut g sides.0)) (none sides.0) (true_every (size g) (in_cut g sides.0) sides.1))
    ]

-- a covered quotient at a leaf is a brick or a brace
ends-at : (g : Graph) (p : List (List ℕ)) → IsGraph g → AreBlocks g.order p → IsLeafAt g p → IsCovered (quotient g p) → EndsInBrickOrBrace g p
ends-at g p is pp none covered = elim (bipartite-or (quotient g p) (quotient_graph g p is pp)) [
  | inl sides ↦ inr (covered, (sides, leaf-quotient g p is pp none))
  | inr odd ↦ inl (covered, (odd, leaf-quotient g p is pp none))
]

pub bricks-and_braces : (g : Graph) (t : Shape) → IsGraph g → IsDerivation g t → All (EndsInBrickOrBrace g) (leaves g.order t)
bricks-and_braces g t is derives k d less =
    ends-at g _ is (partitions-leaves g t derives k d less).partition (uncut-leaves g t derives k d less) (covered-leaves g t is derives k d less)
