-- What one leaf under names of blocks carries to the other: tight shores, derivations, merged
-- partitions; and the inverse names.
use Rattle.graph_core.proofs.from_counting.Common.{◌≡◌, ◌↔◌, ℕ, ◌-◌, ◌<◌, List, [], length, map, sym, ap, ◌∙◌, arith, get_or-map, length-map, mem-within, member-of_set, mem-rising_list, rising_list-rises, Within, IsRisingIn, last_of, mem, Set}
use Rattle.graph_core.proofs.Common.{rep, rep_in, rep_place, union_congr, Some, merged_merges, Graph, IsGraph, IsPartition, block, merged, place, IsTightAt, IsUnion, blocks_in, IsNontrivial}
use Rattle.tree_core.proofs.Common.{stands-derivation_at, IsDerivationAt, position, StandsAt, Fits, Shape}
use Rattle.move_laws.proofs.CarriedBack.{carried_back, carried_twice}
use Rattle.move_laws.proofs.CarriedCuts.{iso_merged}
use Rattle.move_laws.proofs.CarriedTrees.{carried_derives}
use Rattle.move_laws.proofs.Images.{image_at, image_nontrivial, image_tight, image_union, move_is, nontrivial_image, tight_image, turned}
use Rattle.move_laws.proofs.Rising.{rising-derivation_at}
use Rattle.move_laws.proofs.SameLeaves.{from_name-own, iso_same_leaf, name_place, name_within, same_leaf_iso}
use Rattle.move_laws.specs.Common.{Isomorphism, carry, pre, IsSameLeaf, from_name, image_shore, merged_names, to_name, turned_names}

module _ (g : Graph) (p q : List (List ℕ)) (names : List ℕ) (is : IsGraph g) (pp : IsPartition g.order p) (qp : IsPartition g.order q) (same : IsSameLeaf g p q names) where
  iso : Isomorphism g p q (to_name p names) (from_name p q names)
  iso = same_leaf_iso g is p q pp.partition qp.partition names same

  pub carries-tight : (x : Set) → IsUnion g.order p x → IsTightAt g p x ↔ IsTightAt g q (pre (from_name p q names) x)
  carries-tight x union = (
    image_tight g is p q (to_name p names) (from_name p q names) pp.partition qp.partition iso x,
    tight_image g is p q (to_name p names) (from_name p q names) pp.partition qp.partition iso x union,
  )

  pub carries-nontrivial : (x : Set) → IsUnion g.order p x → IsNontrivial (length p) (blocks_in p x) ↔ IsNontrivial (length q) (blocks_in q (pre (from_name p q names) x))
  carries-nontrivial x union = grind (arith, image_nontrivial, iso, nontrivial_image)

  pub carries-derivation : (t : Shape) → IsDerivationAt g p t ↔ (Fits g.order t × StandsAt g.order p t × IsDerivationAt g q (carry g.order (from_name p q names) t))
  carries-derivation t = grind (arith, stands-derivation_at, carried_derives, iso, rising-derivation_at, carried_back)

  pub carries-twice : (t : Shape) → Fits g.order t → StandsAt g.order p t → carry g.order (to_name p names) (carry g.order (from_name p q names) t) ≡ t
  carries-twice t = carried_twice g p q (to_name p names) (from_name p q names) iso pp t

  -- the names turned round
  pub turned-leaf : IsSameLeaf g q p (turned_names p q names)
  unfolding iso
  turned-leaf =
      let back = turned g p q (to_name p names) (from_name p q names) iso in
      iso_same_leaf g is q p (from_name p q names) (to_name p names) qp.partition pp.partition back (turned_names p q names) (length-map q (λ b. from_name p q names (last_of b))) (λ i w.
      let u = rep q i in
      get_or-map (λ b. from_name p q names (last_of b)) q (i - 1) [] 0 (omega arith)
      ∙ ap (λ j. last_of (block p (position (map (place q) names) j))) (name_place g.order q qp.partition i w ∙ sym (rep_place g.order q qp.partition i w))
      ∙ sym (from_name-own g is p q pp.partition qp.partition names same u (rep_in g.order q qp.partition i w).0)
      ∙ ap (λ j. last_of (block p j)) (sym (move_is g is q p (from_name p q names) (to_name p names) qp.partition pp.partition back i)))

  -- a union of blocks and its image merged
  module _ (x : List ℕ) (rises : IsRisingIn g.order x) (nonempty : 0 < length x) (union : IsUnion g.order p (mem x)) where
    shore : List ℕ
    shore = image_shore g.order p q names x

    shore-mem : (v : ℕ) → Within g.order v → mem shore v ≡ mem x (from_name p q names v)
    unfolding shore
    shore-mem v w = mem-rising_list g.order (λ v. mem x (from_name p q names v)) v w

    shore-rises : IsRisingIn g.order shore
    unfolding shore
    shore-rises = rising_list-rises g.order (λ v. mem x (from_name p q names v))

    shore-union : IsUnion g.order q (mem shore)
    shore-union = grind (arith, union_congr, mem, shore, shore-mem, image_union, iso)

    some : Some g.order (mem x)
    some = member-of_set g.order x rises nonempty

    shore-some : Some g.order (mem shore)
    shore-some =
        let v = to_name p names some.0 in
        let w = iso.there.within some.0 some.1 in
        (v, w, shore-mem v w ∙ image_at g is p q (to_name p names) (from_name p q names) pp.partition qp.partition iso (mem x) union some.0 some.1 ∙ some.2)

    pub merged-leaf : IsSameLeaf g (merged p x) (merged q (image_shore g.order p q names x)) (merged_names p (merged p x) (merged q (image_shore g.order p q names x)) names)
    unfolding shore iso
    merged-leaf =
        let r = merged p x in
        let s = merged q shore in
        let f : List ℕ → ℕ = λ b. last_of (block s (place s (to_name p names (last_of b)))) in
        let rp = (merged_merges g.order p x pp.partition union some (mem-within g.order x rises)).partition in
        let sp = (merged_merges g.order q shore qp.partition shore-union shore-some (mem-within g.order shore shore-rises)).partition in
        let both = iso_merged g is p q (to_name p names) (from_name p q names) pp.partition qp.partition iso x shore union shore-union rises shore-rises some shore-some shore-mem in
        iso_same_leaf g is r s (to_name p names) (from_name p q names) rp sp both (map f r) (length-map r f) (λ i w.
        get_or-map f r (i - 1) [] 0 (omega arith)
        ∙ ap (λ j. last_of (block s j))
        (both.there.blocks (last_of (block r i)) (rep r i) (name_within g.order r rp i w) (rep_in g.order r rp i w).0 (name_place g.order r rp i w ∙ sym (rep_place g.order r rp i w))
        ∙ sym (move_is g is r s (to_name p names) (from_name p q names) rp sp both i)))
