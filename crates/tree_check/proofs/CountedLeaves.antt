-- The leaves of a derivation counted as the scan goes: the count of one leaf is told by its kind,
-- and those of the two trees below a cut add up, since their kinds stand one after the other.
use Rattle.graph_core.proofs.from_counting.Common.{◌≡◌, ℕ, ◌+◌, Bool, List, [], ◌∷◌, ◌++◌, cond, ap, ◌∙◌, count_by, arith, sum_by-append, length-append}
use Rattle.graph_core.proofs.Common.{Graph, quotient}
use Rattle.tree_core.proofs.Common.{kinds-both, kinds-one, length-leaves_at, IsKindOf, IsTally, Shape, is_brick, leaf_count, leaves_at, tally_of}
use Rattle.tree_core.specs.declared.tallies.LeafKind.{LeafKind}
use Rattle.tree_core.specs.declared.tallies.Tally.{Tally}
use Rattle.tree_check.specs.Common.{sum_of}

-- how many items of two lists pass a test
count_by-append : {X : Type 0} (f : X → Bool) (xs ys : List X) → count_by f (xs ++ ys) ≡ count_by f xs + count_by f ys
count_by-append f xs ys = sum_by-append (λ x. cond (f x) 1 0) xs ys

module _ (g : Graph) where
  -- one leaf
  pub tally-one : (p : List (List ℕ)) (kind : LeafKind) (tally : Tally) → IsKindOf (quotient g p) kind → tally ≡ tally_of (kind ∷ []) → IsTally g (p ∷ []) tally
  tally-one p kind tally of is = record { kinds = kind ∷ []; right = kinds-one g p kind of; is = is }

  -- the leaves of two lists
  pub tally-both : (ps qs : List (List (List ℕ))) (a b : Tally) → IsTally g ps a → IsTally g qs b → IsTally g (ps ++ qs) (sum_of a b)
  tally-both ps qs a b s t = grind (arith, kinds-both g ps qs s.kinds t.kinds s.right t.right, sums s.kinds t.kinds)
    where
      sums : (ks ls : List LeafKind) → sum_of (tally_of ks) (tally_of ls) ≡ tally_of (ks ++ ls)
      sums ks ls = grind (arith, length-append ks ls, count_by-append is_brick ks ls, count_by-append)

  -- as many leaves as the tree has
  pub leaves-counted : (n : ℕ) (p : List (List ℕ)) (t : Shape) (tally : Tally) → IsTally g (leaves_at n p t) tally → tally.leaves ≡ leaf_count t
  leaves-counted n p t tally is = ap (λ (t : Tally). t.leaves) is.is ∙ is.right.each_one ∙ length-leaves_at n p t
