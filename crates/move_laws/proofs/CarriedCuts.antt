-- A cut carried along an isomorphism of blocks: the isomorphism goes down to merged partitions;
-- the image of a shore or the image's complement is a cut again, and each side of the cut at the
-- one partition has its image as a side of that at the other.
use Rattle.graph_core.proofs.from_counting.Common.{Bool, List, ap, arith, false, inl, inr, length, not, refl, sym, true, ℕ, ◌∙◌, ◌≡◌, ◌≤◌, bit_true, mem-rising_list, rising_list-rises, some_term, not_not, not_not_back, Within, bit, IsRisingIn, mem, rising_list, Set, complement}
use Rattle.graph_core.proofs.Common.{at_rep, block_count_congr, block_count_rest, rep, rep_in, tight_congr, tight_rest, union_congr, union_rest, complement_of-rises, mem-complement_of, Some, alike_down, alike_in, alike_up, merge_of, same_side, merged_merges, Graph, IsGraph, first_end, second_end, AreBlocks, IsMerge, complement_of, merged, place, IsTightAt, IsUnion, block_count, blocks_in, IsNontrivial}
use Rattle.tree_core.proofs.Common.{IsCutAt}
use Rattle.move_laws.proofs.Images.{image_at, image_nontrivial, image_tight}
use Rattle.move_laws.proofs.Rising.{bounds}
use Rattle.move_laws.specs.Common.{Isomorphism, OneWay, pre}

-- one way of an isomorphism after merging x on one side and y, its image, on the other
over_merge : (g : Graph) (is : IsGraph g) (p q r s : List (List ℕ)) (h k : ℕ → ℕ) (x y : Set) → AreBlocks g.order p → AreBlocks g.order q → IsUnion g.order p x → IsUnion g.order q y →
    IsMerge g.order p x r → IsMerge g.order q y s → ((v : ℕ) → Within g.order v → y (h v) ≡ x v) → ((v : ℕ) → Within g.order v → Within g.order (k v)) → OneWay g p q h k → OneWay g r s h k
over_merge g is p q r s h k x y pp qp ux uy mx my xy kw o = record {
  within = o.within;
  blocks = λ v w wv ww e. alike v w wv ww e (x v) refl;
  again = λ v w. alike_up g.order p r x pp ux mx (k (h v)) v (kw (h v) (o.within v w)) w (o.again v w);
  edges = λ e w d.
      let f = o.edges e w (λ t. d (alike_up g.order p r x pp ux mx (first_end g e) (second_end g e) (is e w).0 (is e w).1 t)) in
      let wn = o.within (first_end g e) (is e w).0 in let wf = o.within (second_end g e) (is e w).1 in
      let up : (a b : ℕ) → Within g.order a → Within g.order b → place q a ≡ place q b → place s a ≡ place s b = alike_up g.order q s y qp uy my in (
        f.0,
        f.1,
        elim f.2 [
          | inl t ↦ inl (up (first_end g f.0) (h (first_end g e)) (is f.0 f.1).0 wn t.0, up (second_end g f.0) (h (second_end g e)) (is f.0 f.1).1 wf t.1)
          | inr t ↦ inr (up (first_end g f.0) (h (second_end g e)) (is f.0 f.1).0 wf t.0, up (second_end g f.0) (h (first_end g e)) (is f.0 f.1).1 wn t.1)
        ],
      );
}
  where
    alike : (v w : ℕ) → Within g.order v → Within g.order w → place r v ≡ place r w → (b : Bool) → x v ≡ b → place s (h v) ≡ place s (h w)
    alike v w wv ww e true t = alike_in g.order q s y qp uy my (h v) (h w) (o.within v wv) (o.within w ww) (xy v wv ∙ t) (xy w ww ∙ sym (same_side g.order p r x pp ux mx v w wv ww e) ∙ t)
    alike v w wv ww e false t = alike_up g.order q s y qp uy my (h v) (h w) (o.within v wv) (o.within w ww) (o.blocks v w wv ww (alike_down g.order p r x pp ux mx v w wv ww t e))

-- merging corresponds, with the same maps
pub iso_merged : (g : Graph) (is : IsGraph g) (p q : List (List ℕ)) (h k : ℕ → ℕ) (pp : AreBlocks g.order p) (qp : AreBlocks g.order q) (iso : Isomorphism g p q h k) (x y : List ℕ) →
    IsUnion g.order p (mem x) → IsUnion g.order q (mem y) → IsRisingIn g.order x → IsRisingIn g.order y → Some g.order (mem x) → Some g.order (mem y) → ((v : ℕ) → Within g.order v → mem y v ≡ mem x (k v)) → Isomorphism g (merged p x) (merged q y) h k
iso_merged g is p q h k pp qp iso x y ux uy sx sy nx ny e = record {
  there = over_merge g is p q (merged p x) (merged q y) h k (mem x) (mem y) pp qp ux uy mx my (λ v w. e (h v) (iso.there.within v w) ∙ image_at g is p q h k pp qp iso (mem x) ux v w) iso.back.within iso.there;
  back = over_merge g is q p (merged q y) (merged p x) k h (mem y) (mem x) qp pp uy ux my mx (λ v w. sym (e v w)) iso.there.within iso.back;
}
  where
    mx : IsMerge g.order p (mem x) (merged p x)
    mx = merged_merges g.order p x pp ux nx (bounds sx)

    my : IsMerge g.order q (mem y) (merged q y)
    my = merged_merges g.order q y qp uy ny (bounds sy)

-- some vertex is in a set that contains a block
pub some_of : (n : ℕ) (p : List (List ℕ)) → AreBlocks n p → (x : Set) → IsUnion n p x → 1 ≤ block_count p x → Some n x
some_of n p pp x u h = grind (arith, some_term, bit, blocks_in, rep, rep_in, at_rep, bit_true)

-- what a node of a derivation gives
module _ (g : Graph) (is : IsGraph g) (p : List (List ℕ)) (pp : AreBlocks g.order p) (x : List ℕ) (sx : IsRisingIn g.order x) (tx : IsTightAt g p (mem x)) (nt : IsNontrivial (length p) (blocks_in p (mem x))) where
  pub inner : Some g.order (mem x)
  inner = some_of g.order p pp (mem x) tx.union (let a = nt.inside in omega arith)

  pub rest_tight : IsTightAt g p (mem (complement_of g.order x))
  rest_tight = tight_congr g is p pp (complement (mem x)) (mem (complement_of g.order x)) (λ v w. sym (mem-complement_of g.order x v w)) (tight_rest g is p pp (mem x) tx)

  pub outer : Some g.order (mem (complement_of g.order x))
  outer = grind (arith, some_of, complement, mem, union_rest, block_count_rest, mem-complement_of)

pub nontrivial_rest : (n : ℕ) (p : List (List ℕ)) → AreBlocks n p → (x : Set) → IsUnion n p x → IsNontrivial (length p) (blocks_in p x) → IsNontrivial (length p) (blocks_in p (complement x))
nontrivial_rest n p pp x u nt = grind (arith, block_count_rest, complement, union_rest, block_count_congr, not_not_back)

pub nontrivial_congr : (n : ℕ) (p : List (List ℕ)) → AreBlocks n p → (x y : Set) → IsUnion n p x → ((v : ℕ) → Within n v → x v ≡ y v) → IsNontrivial (length p) (blocks_in p x) → IsNontrivial (length p) (blocks_in p y)
nontrivial_congr n p pp x y u h t = grind (arith, block_count_congr, complement, union_rest, block_count_rest, union_congr)

-- ys at q is the image of xs at p: both are tight increasing lists, and not empty
pub record IsImage (g : Graph) (p q : List (List ℕ)) (k : ℕ → ℕ) (xs ys : List ℕ) : Type 0 where
  pub tight : IsTightAt g p (mem xs)
  pub image_tight : IsTightAt g q (mem ys)
  pub rises : IsRisingIn g.order xs
  pub image_rises : IsRisingIn g.order ys
  pub nonempty : Some g.order (mem xs)
  pub image_nonempty : Some g.order (mem ys)
  pub same : (v : ℕ) → Within g.order v → mem ys v ≡ mem xs (k v)

module _ (g : Graph) (is : IsGraph g) (h k : ℕ → ℕ) (p q : List (List ℕ)) (pp : AreBlocks g.order p) (qp : AreBlocks g.order q) (iso : Isomorphism g p q h k) where
  -- merging a shore and its image
  pub image-merges : (xs ys : List ℕ) → (m : IsImage g p q k xs ys) → IsMerge g.order p (mem xs) (merged p xs) × IsMerge g.order q (mem ys) (merged q ys)
  image-merges xs ys m = (merge_of g is p xs pp m.tight m.nonempty (bounds m.rises), merge_of g is q ys qp m.image_tight m.image_nonempty (bounds m.image_rises))

  pub image-merged : (xs ys : List ℕ) → IsImage g p q k xs ys → Isomorphism g (merged p xs) (merged q ys) h k
  image-merged xs ys m = iso_merged g is p q h k pp qp iso xs ys m.tight.union m.image_tight.union m.rises m.image_rises m.nonempty m.image_nonempty m.same

  -- the shore of a cut at p, and its image and the image's complement at q
  module _ (x : List ℕ) (rises : IsRisingIn g.order x) (tight : IsTightAt g p (mem x)) (nontrivial : IsNontrivial (length p) (blocks_in p (mem x))) where
    abbrev image : List ℕ
    image = rising_list g.order (λ v. mem x (k v))

    abbrev rest : List ℕ
    rest = rising_list g.order (λ v. not (mem x (k v)))

    greatest : Within g.order g.order
    greatest = let w = (inner g is p pp x rises tight nontrivial).1 in (omega arith, omega arith)

    set_tight : IsTightAt g q (pre k (mem x))
    set_tight = image_tight g is p q h k pp qp iso (mem x) tight

    set_nontrivial : IsNontrivial (length q) (blocks_in q (pre k (mem x)))
    set_nontrivial = image_nontrivial g is p q h k pp qp iso (mem x) tight.union nontrivial

    image-mem : (v : ℕ) → Within g.order v → mem image v ≡ mem x (k v)
    image-mem v w = mem-rising_list g.order (λ v. mem x (k v)) v w

    rest-mem : (v : ℕ) → Within g.order v → mem rest v ≡ not (mem x (k v))
    rest-mem v w = mem-rising_list g.order (λ v. not (mem x (k v))) v w

    image_is_tight : IsTightAt g q (mem image)
    image_is_tight = tight_congr g is q qp (pre k (mem x)) (mem image) (λ v w. sym (image-mem v w)) set_tight

    rest_is_tight : IsTightAt g q (mem rest)
    rest_is_tight = tight_congr g is q qp (complement (pre k (mem x))) (mem rest) (λ v w. sym (rest-mem v w)) (tight_rest g is q qp (pre k (mem x)) set_tight)

    image_is_nontrivial : IsNontrivial (length q) (blocks_in q (mem image))
    image_is_nontrivial = nontrivial_congr g.order q qp (pre k (mem x)) (mem image) set_tight.union (λ v w. sym (image-mem v w)) set_nontrivial

    rest_is_nontrivial : IsNontrivial (length q) (blocks_in q (mem rest))
    rest_is_nontrivial =
        nontrivial_congr g.order q qp (complement (pre k (mem x))) (mem rest) (union_rest g.order q qp (pre k (mem x)) set_tight.union) (λ v w. sym (rest-mem v w)) (nontrivial_rest g.order q qp (pre k (mem x)) set_tight.union set_nontrivial)

    image-rises : IsRisingIn g.order image
    image-rises = rising_list-rises g.order (λ v. mem x (k v))

    rest-rises : IsRisingIn g.order rest
    rest-rises = rising_list-rises g.order (λ v. not (mem x (k v)))

    -- the image is the shore of the carried cut where the highest-numbered vertex is in no image,
    -- and else the complement is
    pub image-cut : mem x (k g.order) ≡ false → IsCutAt g q image
    image-cut off = record { set = image-rises; tight = image_is_tight; nontrivial = image_is_nontrivial; canonical = image-mem g.order greatest ∙ off }

    pub rest-cut : mem x (k g.order) ≡ true → IsCutAt g q rest
    rest-cut on = record { set = rest-rises; tight = rest_is_tight; nontrivial = rest_is_nontrivial; canonical = rest-mem g.order greatest ∙ ap not on }

    -- the two sides of the cut, and their images
    pub image-inside : IsImage g p q k x image
    image-inside = record {
      tight = tight;
      image_tight = image_is_tight;
      rises = rises;
      image_rises = image-rises;
      nonempty = inner g is p pp x rises tight nontrivial;
      image_nonempty = inner g is q qp image image-rises image_is_tight image_is_nontrivial;
      same = image-mem;
    }

    pub image-outside : IsImage g p q k (complement_of g.order x) (complement_of g.order image)
    image-outside = record {
      tight = rest_tight g is p pp x rises tight nontrivial;
      image_tight = rest_tight g is q qp image image-rises image_is_tight image_is_nontrivial;
      rises = complement_of-rises g.order x;
      image_rises = complement_of-rises g.order image;
      nonempty = outer g is p pp x rises tight nontrivial;
      image_nonempty = outer g is q qp image image-rises image_is_tight image_is_nontrivial;
      same = λ v w. mem-complement_of g.order image v w ∙ ap not (image-mem v w) ∙ sym (mem-complement_of g.order x (k v) (iso.back.within v w));
    }

    pub rest-inside : IsImage g p q k x (complement_of g.order rest)
    rest-inside = record {
      tight = tight;
      image_tight = rest_tight g is q qp rest rest-rises rest_is_tight rest_is_nontrivial;
      rises = rises;
      image_rises = complement_of-rises g.order rest;
      nonempty = inner g is p pp x rises tight nontrivial;
      image_nonempty = outer g is q qp rest rest-rises rest_is_tight rest_is_nontrivial;
      same = λ v w. mem-complement_of g.order rest v w ∙ ap not (rest-mem v w) ∙ not_not (mem x (k v));
    }

    pub rest-outside : IsImage g p q k (complement_of g.order x) rest
    rest-outside = record {
      tight = rest_tight g is p pp x rises tight nontrivial;
      image_tight = rest_is_tight;
      rises = complement_of-rises g.order x;
      image_rises = rest-rises;
      nonempty = outer g is p pp x rises tight nontrivial;
      image_nonempty = inner g is q qp rest rest-rises rest_is_tight rest_is_nontrivial;
      same = λ v w. rest-mem v w ∙ sym (mem-complement_of g.order x (k v) (iso.back.within v w));
    }
