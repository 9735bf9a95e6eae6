-- The law of carrying: along an isomorphism of blocks a derivation at one partition is carried to
-- a derivation at the other.
use Rattle.graph_core.proofs.from_counting.Common.{Bool, List, false, not, refl, true, ℕ, ◌≡◌, mem, rising_list}
use Rattle.graph_core.proofs.Common.{Graph, IsGraph, AreBlocks, complement_of, merged}
use Rattle.tree_core.proofs.Common.{IsCutAt, IsDerivationAt, IsLeafAt, Shape, cut, leaf}
use Rattle.move_laws.proofs.CarriedCuts.{IsImage, image-merges, image-merged, image-cut, rest-cut, image-inside, image-outside, rest-inside, rest-outside}
use Rattle.move_laws.proofs.Images.{image_nontrivial, image_tight, turned}
use Rattle.move_laws.specs.Common.{Isomorphism, carry, carry_cut, pre, AreRising}

-- t is carried from each partition to each that is the same by h and k
abbrev pub Carries : Graph → (h k : ℕ → ℕ) → Shape → Type 0
Carries g h k t = (p q : List (List ℕ)) → AreBlocks g.order p → AreBlocks g.order q → Isomorphism g p q h k → AreRising g.order t → IsDerivationAt g p t → IsDerivationAt g q (carry g.order k t)

carry_leaf : (g : Graph) → IsGraph g → (h k : ℕ → ℕ) → Carries g h k leaf
unfolding IsLeafAt
carry_leaf g is h k p q pp qp iso fits none y ty ny =
    let back = turned g p q h k iso in
    none (pre h y) (image_tight g is q p k h qp pp back y ty) (image_nontrivial g is q p k h qp pp back y ty.union ny)

carry_node : (g : Graph) → IsGraph g → (h k : ℕ → ℕ) → (x : List ℕ) (a b : Shape) → Carries g h k a → Carries g h k b → Carries g h k (cut x a b)
carry_node g is h k x a b ia ib p q pp qp iso fits d = go (mem x (k g.order)) refl
  where
    here : IsCutAt g p x
    here = d.0

    pass : (t : Shape) → Carries g h k t → (xs ys : List ℕ) → IsImage g p q k xs ys → AreRising g.order t → IsDerivationAt g (merged p xs) t → IsDerivationAt g (merged q ys) (carry g.order k t)
    pass t i xs ys m f d = let merges = image-merges g is h k p q pp qp iso xs ys m in i (merged p xs) (merged q ys) merges.0.partition merges.1.partition (image-merged g is h k p q pp qp iso xs ys m) f d

    go : (t : Bool) → mem x (k g.order) ≡ t → IsDerivationAt g q (carry_cut g.order k x t (carry g.order k a) (carry g.order k b))
    go false t = (
      image-cut g is h k p q pp qp iso x fits.0 here.tight here.nontrivial t,
      pass a ia (complement_of g.order x) (complement_of g.order (rising_list g.order (λ v. mem x (k v)))) (image-outside g is h k p q pp qp iso x fits.0 here.tight here.nontrivial) fits.1 d.1,
      pass b ib x (rising_list g.order (λ v. mem x (k v))) (image-inside g is h k p q pp qp iso x fits.0 here.tight here.nontrivial) fits.2 d.2,
    )
    go true t = (
      rest-cut g is h k p q pp qp iso x fits.0 here.tight here.nontrivial t,
      pass b ib x (complement_of g.order (rising_list g.order (λ v. not (mem x (k v))))) (rest-inside g is h k p q pp qp iso x fits.0 here.tight here.nontrivial) fits.2 d.2,
      pass a ia (complement_of g.order x) (rising_list g.order (λ v. not (mem x (k v)))) (rest-outside g is h k p q pp qp iso x fits.0 here.tight here.nontrivial) fits.1 d.1,
    )

-- the carrying law
pub carried_derives : (g : Graph) → IsGraph g → (h k : ℕ → ℕ) (t : Shape) → Carries g h k t
carried_derives g is h k leaf = carry_leaf g is h k
carried_derives g is h k (cut x a b) = carry_node g is h k x a b (carried_derives g is h k a) (carried_derives g is h k b)
