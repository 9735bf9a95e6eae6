-- A Switch of the two corners of a crossing shore, each of which is one block: the shore, or its
-- complement, becomes the root shore.
use Rattle.graph_core.proofs.from_counting.Common.{Bool, List, None, Some, [], ap, ap₂, arith, false, if◌then◌else◌, inl, inr, not, refl, subst, sym, true, ℕ, ◌&&◌, ◌||◌, ◌∙◌, ◌∷◌, ◌≡◌, ◌⊎◌, mem-rising_list, rising_list-rises, same_rising_list, true_all_in, all_in_false, nor_right, not_not, Within, IsRisingIn, is_subset, mem, complement, meet, union}
use Rattle.graph_core.proofs.Common.{complement_of-rises, mem-complement_of, Graph, complement_of}
use Rattle.tree_core.proofs.Common.{IsDerivationAt, kept_at, merged_at, IsBlockOf, inner_rest, is_proper, kept_if_greatest_stays, kept_if_greatest_comes, merged_if_greatest_stays, merged_if_greatest_comes, outer_rest, switch_at, switch_result_at, union_list, meet_list, Shape, cut, cut_count}
use Rattle.move_laws.proofs.BigShores.{Big, Stage, big_rest, big_some, stage_merged}
use Rattle.move_laws.proofs.Corners.{Corners, corner_of, inner_mem, outer_mem}
use Rattle.move_laws.proofs.Rising.{bounds}
use Rattle.move_laws.proofs.Switches.{each_of, kept_greatest_stays, kept_greatest_comes, map_a, map_b, merged_greatest_stays, merged_greatest_comes, inner_rest-mem, outer_rest-mem, switch_greatest_stays, switch_greatest_comes}
use Rattle.move_laws.proofs.TurningTests.{fits_carry, proper_test}
use Rattle.move_laws.specs.Common.{outer_of, Corner, AreRising, IsProperScript}

-- z is y, or its complement
abbrev pub Kind : ℕ → (y z : List ℕ) → Type 0
Kind n y z = ((v : ℕ) → Within n v → mem z v ≡ mem y v) ⊎ ((v : ℕ) → Within n v → mem z v ≡ not (mem y v))

module _ (g : Graph) (p : List (List ℕ)) (x z y : List ℕ) (c : Corners g p x z) (sy : IsRisingIn g.order y) (nx : mem x g.order ≡ false) (ny : mem y g.order ≡ false) (kind : Kind g.order y z) where
  last : Within g.order g.order
  last = let r = big_some g p c.stage x c.first in let w = r.1 in (omega arith, omega arith)

  y_big : Big g p y
  y_big = elim kind [
    | inl h ↦ subst (Big g p) (same_rising_list g.order z y c.second.shore sy h) c.second
    | inr h ↦ subst (Big g p) (same_rising_list g.order (complement_of g.order z) y (complement_of-rises g.order z) sy (λ v w. mem-complement_of g.order z v w ∙ ap not (h v w) ∙ not_not (mem y v))) (big_rest g p c.stage z c.second)
  ]

  module _ (a b : Shape) (f : AreRising g.order (cut x a b)) (d : IsDerivationAt g p (cut x a b)) (s t : ℕ) (inner_block : IsBlockOf g.order p (mem (meet_list g.order x z)) s) (outer_block : IsBlockOf g.order p (mem (outer_of g.order x z)) t) where
    abbrev inner_corner : List ℕ
    inner_corner = meet_list g.order x z

    abbrev outer_corner : List ℕ
    outer_corner = outer_of g.order x z

    inner-rises : IsRisingIn g.order (meet_list g.order x z)
    inner-rises = rising_list-rises g.order (meet (mem x) (mem z))

    outer-rises : IsRisingIn g.order (outer_of g.order x z)
    outer-rises = rising_list-rises g.order (complement (union (mem x) (mem z)))

    corner : Corner g p (mem x) (mem (meet_list g.order x z)) (mem (outer_of g.order x z)) s t
    corner = corner_of g p x z c s t inner_block outer_block

    both_proper : (is_proper inner_corner x && is_proper outer_corner (complement_of g.order x)) ≡ true
    both_proper = ap₂ ◌&&◌ (proper_test inner_corner x inner-nonempty inner-inside inner-proper) (proper_test outer_corner (complement_of g.order x) outer-nonempty outer-outside outer-proper)
      where
        cm : (w : ℕ) → Within g.order w → mem (complement_of g.order x) w ≡ not (mem x w)
        cm w ww = mem-complement_of g.order x w ww

        inner-nonempty : is_subset inner_corner [] ≡ false
        inner-nonempty = all_in_false inner_corner (mem []) s inner_block.holds refl

        inner-inside : is_subset inner_corner x ≡ true
        inner-inside = true_all_in inner_corner (mem x) (λ v m. corner.inside v ((bounds inner-rises) v m) m)

        inner-proper : is_subset x inner_corner ≡ false
        inner-proper = let l = c.left in all_in_false x (mem inner_corner) l.0 l.2 (inner_mem g p x z c l.0 l.1 ∙ bits (mem x l.0) (mem z l.0) l.3)
          where
            bits : (a b : Bool) → b ≡ false → (a && b) ≡ false
            bits a b h = grind arith

        outer-nonempty : is_subset outer_corner [] ≡ false
        outer-nonempty = all_in_false outer_corner (mem []) t outer_block.holds refl

        outer-outside : is_subset outer_corner (complement_of g.order x) ≡ true
        outer-outside = true_all_in outer_corner (mem (complement_of g.order x)) (λ v m. cm v ((bounds outer-rises) v m) ∙ ap not (corner.outside v ((bounds outer-rises) v m) m))

        outer-proper : is_subset (complement_of g.order x) outer_corner ≡ false
        outer-proper = let r = c.right in all_in_false (complement_of g.order x) (mem outer_corner) r.0 (cm r.0 r.1 ∙ ap not r.2) (outer_mem g p x z c r.0 r.1 ∙ bits (mem x r.0) (mem z r.0) r.3)
          where
            bits : (a b : Bool) → b ≡ true → not (a || b) ≡ false
            bits a b h = grind arith

    kept_stage : Stage g (kept_at g.order p x)
    kept_stage = stage_merged g p c.stage (complement_of g.order x) (big_rest g p c.stage x c.first)

    merged_stage : Stage g (merged_at g.order p x)
    merged_stage = stage_merged g p c.stage x c.first

    -- the Switch of the two corners has y as its shore
    pub switched : (a' : Shape) × (b' : Shape) × (switch_result_at g.order (meet_list g.order x z) (outer_of g.order x z) (cut x a b) ≡ Some (cut y a' b')) × IsProperScript g p (cut x a b) (switch_at [] (meet_list g.order x z) (outer_of g.order x z) ∷ []) (cut y a' b')
    switched = elim kind [
      | inl h ↦
          let greatest : mem outer_corner g.order ≡ true = outer_mem g p x z c g.order last ∙ outside (mem x g.order) (mem z g.order) nx (h g.order last ∙ ny) in
          let shore_is : union_list g.order (outer_rest g.order x outer_corner) inner_corner ≡ y = same_rising_list g.order (union_list g.order (outer_rest g.order x outer_corner) inner_corner) y (rising_list-rises g.order (union (mem (outer_rest g.order x outer_corner)) (mem inner_corner))) sy
          (λ w ww. mem-rising_list g.order (union (mem (outer_rest g.order x outer_corner)) (mem inner_corner)) w ww ∙ ap₂ ◌||◌ (outer_rest-mem g p c.stage x inner_corner outer_corner s t c.first nx inner-rises outer-rises corner w ww ∙ ap (λ k. not (mem x w) && not k) (outer_mem g p x z c w ww)) (inner_mem g p x z c w ww) ∙ is_z (mem x w) (mem z w) ∙ h w ww) in
          let derives = switch_greatest_comes g p c.stage x inner_corner outer_corner s t c.first nx inner-rises outer-rises corner a b f d greatest (subst (Big g p) (sym shore_is) y_big) in
          let kept_carried = kept_greatest_comes g p c.stage x inner_corner outer_corner s t c.first nx inner-rises outer-rises corner greatest a f.1 (each_of g (kept_at g.order p x) a kept_stage f.1 d.1) in
          let merged_carried = merged_greatest_comes g p c.stage x inner_corner outer_corner s t c.first nx inner-rises outer-rises corner greatest b f.2 (each_of g (merged_at g.order p x) b merged_stage f.2 d.2) in
          let kept_fits = subst (λ q. AreRising g.order q × (cut_count q ≡ cut_count a)) (sym kept_carried) (fits_carry g.order (map_a g p c.stage x inner_corner outer_corner s t c.first nx inner-rises outer-rises corner) a) in
          let merged_fits = subst (λ q. AreRising g.order q × (cut_count q ≡ cut_count b)) (sym merged_carried) (fits_carry g.order (map_b g p c.stage x inner_corner outer_corner s t c.first nx inner-rises outer-rises corner) b) in
          let a' = merged_if_greatest_comes g.order x inner_corner b in let b' = kept_if_greatest_comes g.order x inner_corner outer_corner a in
          let e : switch_result_at g.order inner_corner outer_corner (cut x a b) ≡ Some (cut y a' b') =
          ap (λ k. if k then Some (if mem outer_corner g.order then cut (union_list g.order (outer_rest g.order x outer_corner) inner_corner) a' b' else cut (union_list g.order (inner_rest g.order x inner_corner) outer_corner) (kept_if_greatest_stays g.order x inner_corner outer_corner a) (merged_if_greatest_stays g.order x inner_corner outer_corner b)) else None) both_proper
          ∙ ap (λ k. Some (if k then cut (union_list g.order (outer_rest g.order x outer_corner) inner_corner) a' b' else cut (union_list g.order (inner_rest g.order x inner_corner) outer_corner) (kept_if_greatest_stays g.order x inner_corner outer_corner a) (merged_if_greatest_stays g.order x inner_corner outer_corner b))) greatest
          ∙ ap (λ k. Some (cut k a' b')) shore_is in
          (a', b', e, (cut y a' b', e, ((inner-rises, outer-rises), (s, inner_block), (t, outer_block)), subst (λ k. IsDerivationAt g p (cut k a' b')) shore_is derives, (sy, merged_fits.0, kept_fits.0), omega (arith, kept_fits.1, merged_fits.1), refl))
      | inr h ↦
          let greatest : mem outer_corner g.order ≡ false = outer_mem g p x z c g.order last ∙ nor_right (mem x g.order) (mem z g.order) (h g.order last ∙ ap not ny) in
          let shore_is : union_list g.order (inner_rest g.order x inner_corner) outer_corner ≡ y = same_rising_list g.order (union_list g.order (inner_rest g.order x inner_corner) outer_corner) y (rising_list-rises g.order (union (mem (inner_rest g.order x inner_corner)) (mem outer_corner))) sy
          (λ w ww. mem-rising_list g.order (union (mem (inner_rest g.order x inner_corner)) (mem outer_corner)) w ww ∙ ap₂ ◌||◌ (inner_rest-mem g p c.stage x inner_corner outer_corner s t c.first nx inner-rises outer-rises corner w ww ∙ ap (λ k. mem x w && not k) (inner_mem g p x z c w ww)) (outer_mem g p x z c w ww) ∙ not_z (mem x w) (mem z w) ∙ ap not (h w ww) ∙ not_not (mem y w)) in
          let derives = switch_greatest_stays g p c.stage x inner_corner outer_corner s t c.first nx inner-rises outer-rises corner a b f d greatest (subst (Big g p) (sym shore_is) y_big) in
          let kept_carried = kept_greatest_stays g p c.stage x inner_corner outer_corner s t c.first nx inner-rises outer-rises corner greatest a f.1 (each_of g (kept_at g.order p x) a kept_stage f.1 d.1) in
          let merged_carried = merged_greatest_stays g p c.stage x inner_corner outer_corner s t c.first nx inner-rises outer-rises corner greatest b f.2 (each_of g (merged_at g.order p x) b merged_stage f.2 d.2) in
          let kept_fits = subst (λ q. AreRising g.order q × (cut_count q ≡ cut_count a)) (sym kept_carried) (fits_carry g.order (map_a g p c.stage x inner_corner outer_corner s t c.first nx inner-rises outer-rises corner) a) in
          let merged_fits = subst (λ q. AreRising g.order q × (cut_count q ≡ cut_count b)) (sym merged_carried) (fits_carry g.order (map_b g p c.stage x inner_corner outer_corner s t c.first nx inner-rises outer-rises corner) b) in
          let a' = kept_if_greatest_stays g.order x inner_corner outer_corner a in let b' = merged_if_greatest_stays g.order x inner_corner outer_corner b in
          let e : switch_result_at g.order inner_corner outer_corner (cut x a b) ≡ Some (cut y a' b') =
          ap (λ k. if k then Some (if mem outer_corner g.order then cut (union_list g.order (outer_rest g.order x outer_corner) inner_corner) (merged_if_greatest_comes g.order x inner_corner b) (kept_if_greatest_comes g.order x inner_corner outer_corner a) else cut (union_list g.order (inner_rest g.order x inner_corner) outer_corner) a' b') else None) both_proper
          ∙ ap (λ k. Some (if k then cut (union_list g.order (outer_rest g.order x outer_corner) inner_corner) (merged_if_greatest_comes g.order x inner_corner b) (kept_if_greatest_comes g.order x inner_corner outer_corner a) else cut (union_list g.order (inner_rest g.order x inner_corner) outer_corner) a' b')) greatest
          ∙ ap (λ k. Some (cut k a' b')) shore_is in
          (a', b', e, (cut y a' b', e, ((inner-rises, outer-rises), (s, inner_block), (t, outer_block)), subst (λ k. IsDerivationAt g p (cut k a' b')) shore_is derives, (sy, kept_fits.0, merged_fits.0), omega (arith, kept_fits.1, merged_fits.1), refl))
    ]
      where
        outside : (a b : Bool) → a ≡ false → b ≡ false → not (a || b) ≡ true
        outside a b h k = grind arith

        is_z : (a b : Bool) → ((not a && not (not (a || b))) || (a && b)) ≡ b
        is_z a b = grind arith

        not_z : (a b : Bool) → ((a && not (a && b)) || not (a || b)) ≡ not b
        not_z a b = grind arith
