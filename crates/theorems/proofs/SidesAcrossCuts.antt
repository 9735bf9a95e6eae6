-- Sides below a cut and above it.
-- Idea: the side that all edges leave a tight shore from is kept when the shore is merged; and
-- sides of both quotients below a cut, turned to agree on the merged vertices, are sides above it.
use Rattle.tree_check.proofs.from_counting.Common.{◌≡◌, ◌≢◌, ◌∙◌, ℕ, Bool, true, false, cond, not, ◌||◌, List, refl, sym, ap, ap₂, arith, both_ways, mem-within, member-of_set, Within, IsRisingIn, mem, Set, complement}
use Rattle.report_text.proofs.from_contraction.QuotientLaws.{covered_down}
use Rattle.graph_core.proofs.Common.{Some, alike_down, alike_in, alike_up, closed_up, merge_of, same_side, shore-some, IsCovered, Graph, IsGraph, first_end, in_cut, second_end, size, AreBlocks, IsMerge, merged, place, quotient, IsTightAt, IsUnion}
use Rattle.tree_core.proofs.QuotientSides.{differ, differ-back}
use Rattle.theorems.proofs.PartitionSides.{HasSideAt, IsSideAt, LeavesFrom, other-side_at, side-chosen}

-- sides below a cut
module _ (g : Graph) (is : IsGraph g) (p q : List (List ℕ)) (x : Set) (pp : AreBlocks g.order p) (ux : IsUnion g.order p x) (merge : IsMerge g.order p x q) where
  pub parts-apart : (u v : ℕ) → Within g.order u → Within g.order v → x u ≡ true → x v ≡ false → place p u ≢ place p v
  parts-apart u v wu wv t f same = both_ways (x v) f (sym (ux u v wu wv same) ∙ t)

  abbrev pub with_x : Set → Set
  with_x d v = x v || d v

  pub side-below : (d : Set) → IsSideAt g p d → LeavesFrom g x d → IsSideAt g q (with_x d)
  side-below d side leaves = record { union = λ u v wu wv same. alike u v wu wv same (x u) refl; cut = λ e w far. crosses e w far (x (first_end g e)) refl (x (second_end g e)) refl }
    where
      alike : (u v : ℕ) → Within g.order u → Within g.order v → place q u ≡ place q v → (b : Bool) → x u ≡ b → (x u || d u) ≡ (x v || d v)
      alike u v wu wv same true t = ap (λ b. b || d u) t ∙ sym (ap (λ b. b || d v) (sym (same_side g.order p q x pp ux merge u v wu wv same) ∙ t))
      alike u v wu wv same false f = ap₂ ◌||◌ (same_side g.order p q x pp ux merge u v wu wv same) (side.union u v wu wv (alike_down g.order p q x pp ux merge u v wu wv f same))

      crosses : (e : ℕ) → Within (size g) e → place q (first_end g e) ≢ place q (second_end g e) → (a : Bool) → x (first_end g e) ≡ a → (b : Bool) → x (second_end g e) ≡ b → in_cut g (λ v. x v || d v) e ≡ true
      crosses e w far true s true t = absurd (far (alike_in g.order p q x pp ux merge (first_end g e) (second_end g e) (is e w).0 (is e w).1 s t))
      crosses e w far false s false t =
          ap₂ (λ a b. differ (a || d (first_end g e)) (b || d (second_end g e))) s t
          ∙ side.cut e w (λ same. far (alike_up g.order p q x pp ux merge (first_end g e) (second_end g e) (is e w).0 (is e w).1 same))
      crosses e w far true s false t =
          ap₂ (λ a b. differ (a || d (first_end g e)) (b || d (second_end g e))) s t
          ∙ ap (λ a. differ a (d (second_end g e))) (sym (leaves.there e w s t))
          ∙ side.cut e w (parts-apart (first_end g e) (second_end g e) (is e w).0 (is e w).1 s t)
      crosses e w far false s true t =
          ap₂ (λ a b. differ (a || d (first_end g e)) (b || d (second_end g e))) s t
          ∙ ap (λ b. differ (d (first_end g e)) b) (sym (leaves.back e w t s))
          ∙ side.cut e w (λ same. parts-apart (second_end g e) (first_end g e) (is e w).1 (is e w).0 t s (sym same))

  -- a side that has, or lacks, the merged vertices
  pub side-turned : Some g.order x → (c : Set) → IsSideAt g q c → (b : Bool) → (d : Set) × IsSideAt g q d × ((v : ℕ) → Within g.order v → x v ≡ true → d v ≡ b)
  side-turned some c side b = go b (c some.0) refl
    where
      as_one : (v : ℕ) → Within g.order v → x v ≡ true → c v ≡ c some.0
      as_one v w t = side.union v some.0 w some.1 (alike_in g.order p q x pp ux merge v some.0 w some.1 t some.2)

      go : (b a : Bool) → c some.0 ≡ a → (d : Set) × IsSideAt g q d × ((v : ℕ) → Within g.order v → x v ≡ true → d v ≡ b)
      go true true h = (c, side, λ v w t. as_one v w t ∙ h)
      go false false h = (c, side, λ v w t. as_one v w t ∙ h)
      go true false h = (complement c, other-side_at g q c side, λ v w t. ap not (as_one v w t ∙ h))
      go false true h = (complement c, other-side_at g q c side, λ v w t. ap not (as_one v w t ∙ h))

-- sides above a cut: q is p with the vertices of x merged, and r is p with the others merged
module _ (g : Graph) (is : IsGraph g) (p q r : List (List ℕ)) (x y : Set) (pp : AreBlocks g.order p) (ux : IsUnion g.order p x) (uy : IsUnion g.order p y) (one : IsMerge g.order p x q) (two : IsMerge g.order p y r)
    (rest : (v : ℕ) → Within g.order v → y v ≡ not (x v)) where
  module _ (c d : Set) (below : IsSideAt g r c) (beside : IsSideAt g q d) (lacks : (v : ℕ) → Within g.order v → y v ≡ true → c v ≡ false) (has : (v : ℕ) → Within g.order v → x v ≡ true → d v ≡ true) where
    abbrev pub pasted : Set
    pasted v = cond (x v) (c v) (d v)

    in_x : (v : ℕ) → x v ≡ true → pasted v ≡ c v
    in_x v t = ap (λ b. cond b (c v) (d v)) t

    off_x : (v : ℕ) → x v ≡ false → pasted v ≡ d v
    off_x v f = ap (λ b. cond b (c v) (d v)) f

    in_y : (v : ℕ) → Within g.order v → x v ≡ false → y v ≡ true
    in_y v w f = rest v w ∙ ap not f

    off_y : (v : ℕ) → Within g.order v → x v ≡ true → y v ≡ false
    off_y v w t = rest v w ∙ ap not t

    pub side-above : IsSideAt g p pasted
    side-above = record { union = λ u v wu wv same. alike u v wu wv same (x u) refl; cut = λ e w far. crosses e w far (x (first_end g e)) refl (x (second_end g e)) refl }
      where
        alike : (u v : ℕ) → Within g.order u → Within g.order v → place p u ≡ place p v → (b : Bool) → x u ≡ b → pasted u ≡ pasted v
        alike u v wu wv same true t = in_x u t ∙ closed_up g.order p r y pp uy two c below.union u v wu wv same ∙ sym (in_x v (sym (ux u v wu wv same) ∙ t))
        alike u v wu wv same false f = off_x u f ∙ closed_up g.order p q x pp ux one d beside.union u v wu wv same ∙ sym (off_x v (sym (ux u v wu wv same) ∙ f))

        -- an edge that leaves x
        leaves : (u v : ℕ) → Within g.order u → Within g.order v → x u ≡ true → x v ≡ false → (place r u ≢ place r v → differ (c u) (c v) ≡ true) → (place q u ≢ place q v → differ (d u) (d v) ≡ true) → differ (pasted u) (pasted v) ≡ true
        leaves u v wu wv t f by_c by_d =
            let a = by_c (λ same. both_ways (y u) (off_y u wu t) (same_side g.order p r y pp uy two u v wu wv same ∙ in_y v wv f)) in
            let b = by_d (λ same. both_ways (x v) f (sym (same_side g.order p q x pp ux one u v wu wv same) ∙ t)) in
            ap₂ differ (in_x u t) (off_x v f) ∙ across (c u) (c v) (d u) (d v) (lacks v wv (in_y v wv f)) (has u wu t) a b
          where
            across : (i j k l : Bool) → j ≡ false → k ≡ true → differ i j ≡ true → differ k l ≡ true → differ i l ≡ true
            across i j k l e h a b = grind arith

        crosses : (e : ℕ) → Within (size g) e → place p (first_end g e) ≢ place p (second_end g e) → (a : Bool) → x (first_end g e) ≡ a → (b : Bool) → x (second_end g e) ≡ b → in_cut g pasted e ≡ true
        crosses e w far true s true t =
            ap₂ differ (in_x (first_end g e) s) (in_x (second_end g e) t)
            ∙ below.cut e w (λ same. far (alike_down g.order p r y pp uy two (first_end g e) (second_end g e) (is e w).0 (is e w).1 (off_y (first_end g e) (is e w).0 s) same))
        crosses e w far false s false t =
            ap₂ differ (off_x (first_end g e) s) (off_x (second_end g e) t)
            ∙ beside.cut e w (λ same. far (alike_down g.order p q x pp ux one (first_end g e) (second_end g e) (is e w).0 (is e w).1 s same))
        crosses e w far true s false t = leaves (first_end g e) (second_end g e) (is e w).0 (is e w).1 s t (below.cut e w) (beside.cut e w)
        crosses e w far false s true t =
            differ-back (pasted (second_end g e)) (pasted (first_end g e))
            (leaves (second_end g e) (first_end g e) (is e w).1 (is e w).0 t s
            (λ far. differ-back (c (first_end g e)) (c (second_end g e)) (below.cut e w (λ same. far (sym same))))
            (λ far. differ-back (d (first_end g e)) (d (second_end g e)) (beside.cut e w (λ same. far (sym same)))))

  pub sides-pasted : Some g.order x → Some g.order y → HasSideAt g r → HasSideAt g q → HasSideAt g p
  sides-pasted some others below beside =
      let c = side-turned g is p r y pp uy two others below.0 below.1 false in
      let d = side-turned g is p q x pp ux one some beside.0 beside.1 true in
      (pasted c.0 d.0 c.1 d.1 c.2 d.2, side-above c.0 d.0 c.1 d.1 c.2 d.2)

-- at a cut by a list
module _ (g : Graph) (is : IsGraph g) (p : List (List ℕ)) (pp : AreBlocks g.order p) (x : List ℕ) (rises : IsRisingIn g.order x) (tight : IsTightAt g p (mem x)) where
  pub shore-member : Some g.order (mem x)
  shore-member = member-of_set g.order x rises (shore-some g is p pp x tight)

  pub shore-merge : IsMerge g.order p (mem x) (merged p x)
  shore-merge = merge_of g is p x pp tight shore-member (mem-within g.order x rises)

  pub side-kept : IsCovered (quotient g p) → HasSideAt g p → HasSideAt g (merged p x)
  side-kept covered c =
      let d = side-chosen g is p pp (covered_down g p is pp covered) (mem x) tight c.0 c.1 in
      (with_x g is p (merged p x) (mem x) pp tight.union shore-merge d.0, side-below g is p (merged p x) (mem x) pp tight.union shore-merge d.0 d.1 d.2)
