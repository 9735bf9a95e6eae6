-- The leaves of a carried tree are the same leaves as those of the tree, by the names of the images
-- of blocks; two subtrees change places if the complement of an image is taken.
use Rattle.graph_core.proofs.from_counting.Common.{Bool, List, ap, arith, false, length, not, refl, sym, true, ℕ, ◌∙◌, ◌≡◌, cond, map, subst, ◌+◌, ◌-◌, [], ◌++◌, get_or-map, length-map, map-append, Within, mem, rising_list, last_of}
use Rattle.graph_core.proofs.Common.{rep, merged_blocks, alike_up, covered_merged, Finer, IsCovered, Graph, IsGraph, AreBlocks, complement_of, contracted, merged, place, IsPartition, block}
use Rattle.tree_core.proofs.Common.{length-leaves_at, IsCutAt, IsDerivationAt, kept_at, merged_at, numbers, leaves_at, Shape, cut, leaf, leaf_count}
use Rattle.move_laws.proofs.CarriedCuts.{IsImage, image-merges, image-merged, image-inside, image-outside, rest-inside, rest-outside}
use Rattle.move_laws.proofs.Images.{move_is}
use Rattle.move_laws.proofs.Parts.{Part, part-join, part-one, part-turn}
use Rattle.move_laws.proofs.Rising.{bounds}
use Rattle.move_laws.proofs.SameLeaves.{iso_same_leaf}
use Rattle.move_laws.specs.Common.{IsSameLeaf, Isomorphism, carry, carry_cut, AreRising}

-- the old numbers of the leaves in the order of the carried tree, after k others
abbrev pub carry_order : ℕ → (ℕ → ℕ) → ℕ → Shape → List ℕ
carry_order n f k leaf = numbers k 1
carry_order n f k (cut x a b) = cond (mem x (f n)) (carry_order n f (k + leaf_count a) b ++ carry_order n f k a) (carry_order n f k a ++ carry_order n f (k + leaf_count a) b)

-- name_of gives each block of a partition coarser than the base the name of its image
abbrev pub NamesImages : Graph → (h k : ℕ → ℕ) → (List ℕ → ℕ) → List (List ℕ) → Type 0
NamesImages g h k name_of base = (r s : List (List ℕ)) → IsPartition g.order r → IsPartition g.order s → Isomorphism g r s h k → Finer g.order base r → (i : ℕ) → Within (length r) i → name_of (block r i) ≡ last_of (block s (place s (h (rep r i))))

-- named by their images, its blocks make a coarser partition the same leaf as the one that it is
-- carried to
pub images-same_leaf : (g : Graph) → IsGraph g → (h k : ℕ → ℕ) (name_of : List ℕ → ℕ) (base p q : List (List ℕ)) → NamesImages g h k name_of base → IsPartition g.order p → IsPartition g.order q → Isomorphism g p q h k → Finer g.order base p → IsSameLeaf g p q (map name_of p)
images-same_leaf g is h k name_of base p q names lp lq iso finer =
    iso_same_leaf g is p q h k lp.partition lq.partition iso (map name_of p) (length-map p name_of) (λ i w.
    get_or-map name_of p (i - 1) [] 0 (omega arith) ∙ names p q lp lq iso finer i w ∙ ap (λ j. last_of (block q j)) (sym (move_is g is p q h k lp.partition lq.partition iso i)))

-- the leaves of the tree and of the carried tree, wherever the first partition is coarser than
-- the base
abbrev pub LeafParts : Graph → (h k : ℕ → ℕ) → (List ℕ → ℕ) → List (List ℕ) → Shape → Type 0
LeafParts g h k name_of base t = (l : ℕ) (p q : List (List ℕ)) → IsPartition g.order p → IsPartition g.order q → IsCovered (contracted g p) → Isomorphism g p q h k → Finer g.order base p → AreRising g.order t → IsDerivationAt g p t →
    Part g l (leaves_at g.order p t) (leaves_at g.order q (carry g.order k t)) (carry_order g.order k l t) (map (λ (r : List (List ℕ)). map name_of r) (leaves_at g.order p t))

parts_node : (g : Graph) → IsGraph g → (h k : ℕ → ℕ) → (name_of : List ℕ → ℕ) (base : List (List ℕ)) (x : List ℕ) (a b : Shape) → LeafParts g h k name_of base a → LeafParts g h k name_of base b → LeafParts g h k name_of base (cut x a b)
parts_node g is h k name_of base x a b ia ib l p q lp lq cov iso finer fits d = go (mem x (k g.order)) refl
  where
    pp : AreBlocks g.order p
    pp = lp.partition

    qp : AreBlocks g.order q
    qp = lq.partition

    here : IsCutAt g p x
    here = d.0

    -- the image of the shore, and its complement
    image : List ℕ
    image = rising_list g.order (λ v. mem x (k v))

    rest : List ℕ
    rest = rising_list g.order (λ v. not (mem x (k v)))

    pass : (l : ℕ) (t : Shape) → LeafParts g h k name_of base t → (xs ys : List ℕ) → IsImage g p q k xs ys → AreRising g.order t → IsDerivationAt g (merged p xs) t →
        Part g l (leaves_at g.order (merged p xs) t) (leaves_at g.order (merged q ys) (carry g.order k t)) (carry_order g.order k l t) (map (λ (r : List (List ℕ)). map name_of r) (leaves_at g.order (merged p xs) t))
    pass l t i xs ys m f d =
        i l (merged p xs) (merged q ys) (merged_blocks g.order p xs lp m.tight.union m.rises.rising m.nonempty (bounds m.rises)) (merged_blocks g.order q ys lq m.image_tight.union m.image_rises.rising m.image_nonempty (bounds m.image_rises))
        (covered_merged g is p xs pp m.tight m.nonempty (bounds m.rises) cov) (image-merged g is h k p q pp qp iso xs ys m)
        (λ u v wu wv same. alike_up g.order p (merged p xs) (mem xs) pp m.tight.union (image-merges g is h k p q pp qp iso xs ys m).0 u v wu wv (finer u v wu wv same)) f d

    kept_leaves : List (List (List ℕ))
    kept_leaves = leaves_at g.order (kept_at g.order p x) a

    merged_leaves : List (List (List ℕ))
    merged_leaves = leaves_at g.order (merged_at g.order p x) b

    go : (t : Bool) → mem x (k g.order) ≡ t →
        Part g l (leaves_at g.order p (cut x a b)) (leaves_at g.order q (carry_cut g.order k x t (carry g.order k a) (carry g.order k b)))
        (cond t (carry_order g.order k (l + leaf_count a) b ++ carry_order g.order k l a) (carry_order g.order k l a ++ carry_order g.order k (l + leaf_count a) b)) (map (λ (r : List (List ℕ)). map name_of r) (leaves_at g.order p (cut x a b)))
    go false t =
        subst (Part g l (leaves_at g.order p (cut x a b)) (leaves_at g.order q (cut image (carry g.order k a) (carry g.order k b))) (carry_order g.order k l a ++ carry_order g.order k (l + leaf_count a) b)) (sym (map-append (λ (r : List (List ℕ)). map name_of r) kept_leaves merged_leaves))
        (part-join g l kept_leaves (leaves_at g.order (kept_at g.order q image) (carry g.order k a)) merged_leaves (leaves_at g.order (merged_at g.order q image) (carry g.order k b)) (carry_order g.order k l a) (carry_order g.order k (l + leaf_count a) b) (map (λ (r : List (List ℕ)). map name_of r) kept_leaves) (map (λ (r : List (List ℕ)). map name_of r) merged_leaves)
        (pass l a ia (complement_of g.order x) (complement_of g.order image) (image-outside g is h k p q pp qp iso x fits.0 here.tight here.nontrivial) fits.1 d.1)
        (subst (λ z. Part g z merged_leaves (leaves_at g.order (merged_at g.order q image) (carry g.order k b)) (carry_order g.order k (l + leaf_count a) b) (map (λ (r : List (List ℕ)). map name_of r) merged_leaves)) (ap (λ z. l + z) (sym (length-leaves_at g.order (kept_at g.order p x) a)))
        (pass (l + leaf_count a) b ib x image (image-inside g is h k p q pp qp iso x fits.0 here.tight here.nontrivial) fits.2 d.2)))
    go true t =
        subst (Part g l (leaves_at g.order p (cut x a b)) (leaves_at g.order q (cut rest (carry g.order k b) (carry g.order k a))) (carry_order g.order k (l + leaf_count a) b ++ carry_order g.order k l a)) (sym (map-append (λ (r : List (List ℕ)). map name_of r) kept_leaves merged_leaves))
        (part-turn g l kept_leaves (leaves_at g.order (merged_at g.order q rest) (carry g.order k a)) merged_leaves (leaves_at g.order (kept_at g.order q rest) (carry g.order k b)) (carry_order g.order k l a) (carry_order g.order k (l + leaf_count a) b) (map (λ (r : List (List ℕ)). map name_of r) kept_leaves) (map (λ (r : List (List ℕ)). map name_of r) merged_leaves)
        (pass l a ia (complement_of g.order x) rest (rest-outside g is h k p q pp qp iso x fits.0 here.tight here.nontrivial) fits.1 d.1)
        (subst (λ i. Part g i merged_leaves (leaves_at g.order (kept_at g.order q rest) (carry g.order k b)) (carry_order g.order k (l + leaf_count a) b) (map (λ (r : List (List ℕ)). map name_of r) merged_leaves)) (ap (λ i. l + i) (sym (length-leaves_at g.order (kept_at g.order p x) a)))
        (pass (l + leaf_count a) b ib x (complement_of g.order rest) (rest-inside g is h k p q pp qp iso x fits.0 here.tight here.nontrivial) fits.2 d.2)))

-- the leaves of a carried tree
pub carried_parts : (g : Graph) → IsGraph g → (h k : ℕ → ℕ) (name_of : List ℕ → ℕ) (base : List (List ℕ)) → NamesImages g h k name_of base → (t : Shape) → LeafParts g h k name_of base t
carried_parts g is h k name_of base names leaf = λ l p q lp lq cov iso finer fits d.
    part-one g l p q (map name_of p) (images-same_leaf g is h k name_of base p q names lp lq iso finer)
carried_parts g is h k name_of base names (cut x a b) = parts_node g is h k name_of base x a b (carried_parts g is h k name_of base names a) (carried_parts g is h k name_of base names b)
