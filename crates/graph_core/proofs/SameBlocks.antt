-- A partition is fixed by its relation "in the same block": two partitions with the same relation
-- are equal as lists. They have the same blocks, and increasing names allow only one order.
use Rattle.vset_core.proofs.from_counting.Common.{List, [], ap, ap₂, arith, inl, inr, refl, subst, suc, sym, true, ℕ, ◌+◌, ◌<◌, ◌∙◌, ◌∷◌, ◌≡◌, slice_index, slice_index_or, IsStrictlyIncreasing, same_tests, mem-item, same_rising_list, Within, IsRisingIn, last_of, mem}
use Rattle.graph_core.proofs.Blocks.{place_in, place_is}
use Rattle.graph_core.proofs.Merging.{Has, block_has, has_block}
use Rattle.graph_core.specs.Common.{IsPartition, block, names_of, place}

-- each name is below all later ones
abbrev pub Ordered : List (List ℕ) → Type 0
Ordered [] = Unit {0}
Ordered (b ∷ p) = ((c : List ℕ) → Has p c → last_of b < last_of c) × Ordered p

-- the names without the first are increasing too
rising_rest : (b : List ℕ) (p : List (List ℕ)) → IsStrictlyIncreasing (names_of (b ∷ p)) → IsStrictlyIncreasing (names_of p)
rising_rest b p h k l = let e : suc k + 1 ≡ suc (k + 1) = omega arith in subst (λ j. slice_index (names_of p) k < slice_index (names_of (b ∷ p)) j) e (h (suc k) (omega arith))

-- if each name is below the next, it is below all later ones
pub rising_ordered : (p : List (List ℕ)) → IsStrictlyIncreasing (names_of p) → Ordered p
rising_ordered [] h = tt
rising_ordered (b ∷ p) h = (below p h (rising_ordered p (rising_rest b p h)), rising_ordered p (rising_rest b p h))
  where
    below : (p : List (List ℕ)) → IsStrictlyIncreasing (names_of (b ∷ p)) → Ordered p → (c : List ℕ) → Has p c → last_of b < last_of c
    below [] h o c k = absurd k
    below (d ∷ p) h o c (inl e) = subst (λ (c : List ℕ). last_of b < last_of c) e (h 0 (omega arith))
    below (d ∷ p) h o c (inr k) = let a : last_of b < last_of d = h 0 (omega arith) in let q = o.0 c k in omega arith

-- two ordered lists with the same blocks are equal
ordered_same : (p q : List (List ℕ)) → Ordered p → Ordered q → ((c : List ℕ) → Has p c → Has q c) → ((c : List ℕ) → Has q c → Has p c) → p ≡ q
ordered_same [] [] o r f k = refl
ordered_same [] (c ∷ q) o r f k = absurd (k c (inl refl))
ordered_same (b ∷ p) [] o r f k = absurd (f b (inl refl))
ordered_same (b ∷ p) (c ∷ q) o r f k = ap₂ ◌∷◌ head (ordered_same p q o.1 r.1
    (λ d h. elim (f d (inr h)) [ inr z ↦ z | inl e ↦ let a = o.0 d h in let s = ap last_of (head ∙ e) in absurd (omega arith) ])
    (λ d h. elim (k d (inr h)) [ inr z ↦ z | inl e ↦ let a = r.0 d h in let s = ap last_of (sym head ∙ e) in absurd (omega arith) ]))
  where
    head : b ≡ c
    head = elim (f b (inl refl)) [
      | inl e ↦ sym e
      | inr h ↦ elim (k c (inl refl)) [ inl e ↦ e | inr j ↦ let a = r.0 b h in let s = o.0 c j in absurd (omega arith) ]
    ]

-- a block is an increasing list within 1 to n
pub block_rises : (n : ℕ) (p : List (List ℕ)) (c : List ℕ) → IsPartition n p → Has p c → IsRisingIn n c
block_rises n p c is h = grind (arith, has_block p c h, slice_index_or c, mem-item c)

-- two vertices share a block of p where they share one of q
abbrev pub Finer : ℕ → (p q : List (List ℕ)) → Type 0
Finer n p q = (u v : ℕ) → Within n u → Within n v → place p u ≡ place p v → place q u ≡ place q v

-- partitions with the same relation are equal
pub same_blocks : (n : ℕ) (p q : List (List ℕ)) → IsPartition n p → IsPartition n q → Finer n p q → Finer n q p → p ≡ q
same_blocks n p q lp lq f b = ordered_same p q (rising_ordered p lp.order) (rising_ordered q lq.order) (λ c h. over p q lp lq f b c h) (λ c h. over q p lq lp b f c h)
  where
    over : (p q : List (List ℕ)) → IsPartition n p → IsPartition n q → Finer n p q → Finer n q p → (c : List ℕ) → Has p c → Has q c
    over p q lp lq f b c h =
        let r = has_block p c h in
        let v = lp.partition.full r.0 r.1 in
        let m = place_in n q lq.partition v.0 v.1 in
        let d = block q (place q v.0) in
        let hd : Has q d = block_has q (place q v.0) m.0 in
        let pv : r.0 ≡ place p v.0 = place_is n p lp.partition v.0 r.0 v.1 r.1 v.2 in
        let there : (w : ℕ) → mem c w ≡ true → mem d w ≡ true = λ w t.
        let tb : mem (block p r.0) w ≡ true = ap (λ z. mem z w) r.2 ∙ t in
        let ww = lp.partition.within r.0 w r.1 tb in
        let e = f w v.0 ww v.1 (sym (place_is n p lp.partition w r.0 ww r.1 tb) ∙ pv) in
        ap (λ i. mem (block q i) w) (sym e) ∙ (place_in n q lq.partition w ww).1 in
        let back : (w : ℕ) → mem d w ≡ true → mem c w ≡ true = λ w t.
        let ww = lq.partition.within (place q v.0) w m.0 t in
        let e = b w v.0 ww v.1 (sym (place_is n q lq.partition w (place q v.0) ww m.0 t)) in
        ap (λ z. mem z w) (sym r.2) ∙ ap (λ i. mem (block p i) w) (pv ∙ sym e) ∙ (place_in n p lp.partition w ww).1 in
        subst (Has q) (sym (same_rising_list n c d (block_rises n p c lp h) (block_rises n q d lq hd) (λ w _. same_tests (mem c w) (mem d w) (there w) (back w)))) hd
