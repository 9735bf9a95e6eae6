-- Partitions that are coarser than p, seen as partitions of the blocks of p.
-- Idea: each block is replaced by the set of the places of its parts. Names keep their order,
-- since names rise with places; so merging first and then passing to places is the same as the
-- other way.
use Rattle.std.proofs.Common.{[], ◌≡◌, ◌∙◌, ℕ, zero, suc, ◌+◌, ◌-◌, ◌<◌, Bool, true, false, cond, List, ◌∷◌, map, length, get_or, inl, inr, le-leb, refl, sym, ap, ap₂, arith, subst, slice_index}
use Rattle.tree_check.proofs.from_counting.Common.{IsStrictlyIncreasing, cases_eq, cases_lt, false_from_ne_true, get_or-map, length-map, All-map, same_tests, count_congr, mem-within, all_in_true, last-greatest, last_is_greatest, mem-rising_list, rising_list-rises, Within, count, IsRisingIn, last_of, mem, rising_list}
use Rattle.graph_core.proofs.Common.{at_place, rep, rep_in, rep_place, place_in, place_is, merged_blocks, Some, alike_down, alike_in, alike_up, same_side, Has, block_has, has_block, mem_last, merged_merges, block_rises, same_blocks, union-singles, place_singles, singles-partition, AreBlocks, IsMerge, IsPartition, block, merged, names_of, place, singles, IsUnion, blocks_in}

rises-far : (xs : List ℕ) → IsStrictlyIncreasing xs → (i j : ℕ) → i < j → j < length xs → slice_index xs i < slice_index xs j
rises-far xs rising i zero l m = absurd (omega arith)
rises-far xs rising i (suc j) l m =
    let e : j + 1 ≡ suc j = omega arith in
    let step = subst (λ k. slice_index xs j < slice_index xs k) e (rising j (omega arith)) in
    elim (cases_eq i j) [
      | inl same ↦ subst (λ k. slice_index xs k < slice_index xs (suc j)) (sym same) step
      | inr d ↦ let before = rises-far xs rising i j (omega arith) (omega arith) in omega arith
    ]

own-place : (k i : ℕ) → Within k i → place (singles k) i ≡ i
own-place k i w = place_singles k i w.0 ∙ ap (λ b. cond b i (k + 1)) (le-leb i k w.1)

module _ (n : ℕ) (p : List (List ℕ)) (pp : IsPartition n p) where
  -- the places of the blocks of p in b
  pub down : List ℕ → List ℕ
  down b = rising_list (length p) (blocks_in p (mem b))

  pub downs : List (List ℕ) → List (List ℕ)
  downs q = map down q

  pub down-is : (b : List ℕ) → down b ≡ rising_list (length p) (blocks_in p (mem b))
  unfolding down
  down-is b = refl

  pub down-rises : (b : List ℕ) → IsRisingIn (length p) (down b)
  unfolding down
  down-rises b = rising_list-rises (length p) (blocks_in p (mem b))

  pub mem-down_at : (b : List ℕ) (i : ℕ) → Within (length p) i → mem (down b) i ≡ blocks_in p (mem b) i
  unfolding down
  mem-down_at b i w = mem-rising_list (length p) (blocks_in p (mem b)) i w

  pub mem-down : (b : List ℕ) → IsUnion n p (mem b) → (v : ℕ) → Within n v → mem (down b) (place p v) ≡ mem b v
  mem-down b union v w = mem-down_at b (place p v) (place_in n p pp.partition v w).0 ∙ at_place n p pp.partition (mem b) union v w

  -- names rise with places
  named : (i : ℕ) → Within (length p) i → Within n (last_of (block p i)) × (mem (block p i) (last_of (block p i)) ≡ true)
  named i w =
      let f = pp.partition.full i w in
      let m = mem_last (block p i) f.0 f.2 in
      (pp.partition.within i (last_of (block p i)) w m, m)

  name-at : (i : ℕ) → Within (length p) i → slice_index (names_of p) (i - 1) ≡ last_of (block p i)
  name-at i w = get_or-map last_of p (i - 1) [] 0 (omega arith)

  names-rise : (i j : ℕ) → Within (length p) i → Within (length p) j → i < j → last_of (block p i) < last_of (block p j)
  names-rise i j wi wj l = grind (arith, length-map, last_of, rises-far, names_of, name-at)

  -- the greatest vertex of a union of blocks is the name of its block
  block-of_last : (b : List ℕ) → IsRisingIn n b → IsUnion n p (mem b) → (v : ℕ) → mem b v ≡ true → last_of (block p (place p (last_of b))) ≡ last_of b
  block-of_last b rises union v m =
      let top = mem_last b v m in
      let w = mem-within n b rises (last_of b) top in
      let r = place_in n p pp.partition (last_of b) w in
      let c = block p (place p (last_of b)) in
      let own = named (place p (last_of b)) r.0 in
      let up = last_is_greatest n c (block_rises n p c pp (block_has p (place p (last_of b)) r.0)) (last_of b) r.1 in
      let same = place_is n p pp.partition (last_of c) (place p (last_of b)) own.0 r.0 own.1 in
      let inside = sym (union (last_of b) (last_of c) w own.0 same) ∙ top in
      let low = last_is_greatest n b rises (last_of c) inside in
      omega arith

  last-down : (b : List ℕ) → IsRisingIn n b → IsUnion n p (mem b) → (v : ℕ) → mem b v ≡ true → last_of (down b) ≡ place p (last_of b)
  last-down b rises union v m = last-greatest (length p) (place p (last_of b)) (down b) (down-rises b) (record { member = mem-down b union (last_of b) w ∙ top; after = above })
    where
      top : mem b (last_of b) ≡ true
      top = mem_last b v m

      w : Within n (last_of b)
      w = mem-within n b rises (last_of b) top

      above : (i : ℕ) → place p (last_of b) < i → mem (down b) i ≡ false
      above i l = false_from_ne_true (mem (down b) i) (λ t.
          let wi = mem-within (length p) (down b) (down-rises b) i t in
          let r = place_in n p pp.partition (last_of b) w in
          let own = named i wi in
          let inside = all_in_true (block p i) (mem b) (sym (mem-down_at b i wi) ∙ t) (last_of (block p i)) own.1 in
          let low = last_is_greatest n b rises (last_of (block p i)) inside in
          let high = names-rise (place p (last_of b)) i r.0 wi l in
          let same = block-of_last b rises union v m in
          omega arith)

  pub length-downs : (q : List (List ℕ)) → length (downs q) ≡ length q
  unfolding downs
  length-downs q = length-map q down

  module _ (q : List (List ℕ)) (qp : IsPartition n q) (unions : (b : List ℕ) → Has q b → IsUnion n p (mem b)) where
    block-downs : (i : ℕ) → Within (length q) i → block (downs q) i ≡ down (block q i)
    unfolding downs
    block-downs i w = get_or-map down q (i - 1) [] [] (omega arith)

    at-block : (i v : ℕ) → Within (length q) i → Within n v → mem (block (downs q) i) (place p v) ≡ mem (block q i) v
    at-block i v wi w = ap (λ (c : List ℕ). mem c (place p v)) (block-downs i wi) ∙ mem-down (block q i) (unions (block q i) (block_has q i wi)) v w

    down-blocks : AreBlocks (length p) (downs q)
    down-blocks = record {
      once = λ j wj.
          let r = rep_in n p pp.partition j wj in
          let same = rep_place n p pp.partition j wj in
          ap (λ k. count k (λ i. mem (block (downs q) i) j)) (length-downs q)
          ∙ count_congr (length q) (λ i. mem (block (downs q) i) j) (λ i. mem (block q i) (rep p j)) (λ i wi. ap (mem (block (downs q) i)) (sym same) ∙ at-block i (rep p j) wi r.0)
          ∙ qp.partition.once (rep p j) r.0;
      within = λ i v w m.
          let wi : Within (length q) i = subst (λ k. Within k i) (length-downs q) w in
          mem-within (length p) (down (block q i)) (down-rises (block q i)) v (ap (λ (c : List ℕ). mem c v) (sym (block-downs i wi)) ∙ m);
      full = λ i w.
          let wi : Within (length q) i = subst (λ k. Within k i) (length-downs q) w in
          let f = qp.partition.full i wi in
          (place p f.0, (place_in n p pp.partition f.0 f.1).0, at-block i f.0 wi f.1 ∙ f.2);
    }

    name-down : (i : ℕ) → i < length q → slice_index (names_of (downs q)) i ≡ place p (slice_index (names_of q) i)
    name-down i l =
        let long = length-downs q in
        let back : i + 1 - 1 ≡ i = omega arith in
        let w : Within (length q) (i + 1) = (omega arith, omega arith) in
        let f = qp.partition.full (i + 1) w in
        let h = block_has q (i + 1) w in
        let a : slice_index (names_of (downs q)) i ≡ last_of (get_or (downs q) i []) = get_or-map last_of (downs q) i [] 0 (omega arith) in
        let b : get_or (downs q) i [] ≡ block (downs q) (i + 1) = ap (λ j. get_or (downs q) j []) (sym back) in
        let c : slice_index (names_of q) i ≡ last_of (get_or q i []) = get_or-map last_of q i [] 0 l in
        let d : get_or q i [] ≡ block q (i + 1) = ap (λ j. get_or q j []) (sym back) in
        a ∙ ap last_of (b ∙ block-downs (i + 1) w) ∙ last-down (block q (i + 1)) (block_rises n q (block q (i + 1)) qp h) (unions (block q (i + 1)) h) f.0 f.2 ∙ ap (place p) (sym (c ∙ ap last_of d))

    -- a name of q is the name of its block in p
    own-name : (i : ℕ) → i < length q → Within n (slice_index (names_of q) i) × (last_of (block p (place p (slice_index (names_of q) i))) ≡ slice_index (names_of q) i)
    own-name i l =
        let back : i + 1 - 1 ≡ i = omega arith in
        let w : Within (length q) (i + 1) = (omega arith, omega arith) in
        let f = qp.partition.full (i + 1) w in
        let h = block_has q (i + 1) w in
        let b = block q (i + 1) in
        let rises = block_rises n q b qp h in
        let c : slice_index (names_of q) i ≡ last_of b = get_or-map last_of q i [] 0 l ∙ ap (λ j. last_of (get_or q j [])) (sym back) in (
          subst (Within n) (sym c) (mem-within n b rises (last_of b) (mem_last b f.0 f.2)),
          ap (λ u. last_of (block p (place p u))) c ∙ block-of_last b rises (unions b h) f.0 f.2 ∙ sym c,
        )

    down-order : IsStrictlyIncreasing (names_of (downs q))
    down-order i l = grind (arith, length-map, downs, last_of, length-downs, name-down, own-name, place_in, slice_index, names_of, cases_lt, place, cases_eq, block, names-rise)

    pub down-partition : IsPartition (length p) (downs q)
    unfolding downs
    down-partition = record {
      partition = down-blocks;
      blocks = All-map IsStrictlyIncreasing down q (λ k d l. (down-rises (get_or q k d)).rising);
      order = down-order;
    }

  -- the place of the place
  pub place-down : (q : List (List ℕ)) → ((b : List ℕ) → Has q b → IsUnion n p (mem b)) → (v : ℕ) → Within n v → place (downs q) (place p v) ≡ place q v
  unfolding downs
  place-down [] unions v w = refl
  place-down (b ∷ q) unions v w = ap₂ (λ t j. cond t 1 (j + 1)) (mem-down b (unions b (inl refl)) v w) (place-down q (λ c h. unions c (inr h)) v w)

  -- each block of a coarser partition is a union of blocks
  pub coarse-unions : (q : List (List ℕ)) → AreBlocks n q → ((u v : ℕ) → Within n u → Within n v → place p u ≡ place p v → place q u ≡ place q v) → (b : List ℕ) → Has q b → IsUnion n p (mem b)
  coarse-unions q qp coarser b h u v wu wv same =
      let r = has_block q b h in
      let e = coarser u v wu wv same in
      let at : (w : ℕ) → Within n w → mem b w ≡ true → r.0 ≡ place q w = λ w ww t. place_is n q qp w r.0 ww r.1 (ap (λ (c : List ℕ). mem c w) r.2 ∙ t) in
      let in_b : (w : ℕ) → Within n w → r.0 ≡ place q w → mem b w ≡ true = λ w ww k. ap (λ (c : List ℕ). mem c w) (sym r.2) ∙ ap (λ i. mem (block q i) w) k ∙ (place_in n q qp w ww).1 in
      same_tests (mem b u) (mem b v) (λ t. in_b v wv (at u wu t ∙ e)) (λ t. in_b u wu (at v wv t ∙ sym e))

  -- merging
  module _ (x : List ℕ) (rises : IsRisingIn n x) (union : IsUnion n p (mem x)) (some : Some n (mem x)) where
    low : (v : ℕ) → mem x v ≡ true → Within n v
    low = mem-within n x rises

    merge : IsMerge n p (mem x) (merged p x)
    merge = merged_merges n p x pp.partition union some low

    pub merged-unions : (b : List ℕ) → Has (merged p x) b → IsUnion n p (mem b)
    merged-unions = coarse-unions (merged p x) merge.partition (λ u v wu wv same. alike_up n p (merged p x) (mem x) pp.partition union merge u v wu wv same)

    merged-is : IsPartition n (merged p x)
    merged-is = merged_blocks n p x pp union rises.rising some low

    some-down : Some (length p) (mem (down x))
    some-down = (place p some.0, (place_in n p pp.partition some.0 some.1).0, mem-down x union some.0 some.1 ∙ some.2)

    low-down : (i : ℕ) → mem (down x) i ≡ true → Within (length p) i
    low-down = mem-within (length p) (down x) (down-rises x)

    single : IsPartition (length p) (singles (length p))
    single = singles-partition (length p)

    alone : IsUnion (length p) (singles (length p)) (mem (down x))
    alone = union-singles (length p) (mem (down x))

    merge-down : IsMerge (length p) (singles (length p)) (mem (down x)) (merged (singles (length p)) (down x))
    merge-down = merged_merges (length p) (singles (length p)) (down x) single.partition alone some-down low-down

    pub merged-down : downs (merged p x) ≡ merged (singles (length p)) (down x)
    merged-down =
        same_blocks (length p) (downs (merged p x)) (merged (singles (length p)) (down x)) (down-partition (merged p x) merged-is merged-unions)
        (merged_blocks (length p) (singles (length p)) (down x) single alone (down-rises x).rising some-down low-down) finer coarser
      where
        at : (i : ℕ) → Within (length p) i → place (downs (merged p x)) i ≡ place (merged p x) (rep p i)
        at i w = ap (place (downs (merged p x))) (sym (rep_place n p pp.partition i w)) ∙ place-down (merged p x) merged-unions (rep p i) (rep_in n p pp.partition i w).0

        held : (i : ℕ) → Within (length p) i → mem (down x) i ≡ mem x (rep p i)
        held i w = ap (mem (down x)) (sym (rep_place n p pp.partition i w)) ∙ mem-down x union (rep p i) (rep_in n p pp.partition i w).0

        finer : (i j : ℕ) → Within (length p) i → Within (length p) j → place (downs (merged p x)) i ≡ place (downs (merged p x)) j → place (merged (singles (length p)) (down x)) i ≡ place (merged (singles (length p)) (down x)) j
        finer i j wi wj same = go (mem x (rep p i)) refl
          where
            wu : Within n (rep p i)
            wu = (rep_in n p pp.partition i wi).0

            wv : Within n (rep p j)
            wv = (rep_in n p pp.partition j wj).0

            e : place (merged p x) (rep p i) ≡ place (merged p x) (rep p j)
            e = sym (at i wi) ∙ same ∙ at j wj

            go : (b : Bool) → mem x (rep p i) ≡ b → place (merged (singles (length p)) (down x)) i ≡ place (merged (singles (length p)) (down x)) j
            go true t =
                alike_in (length p) (singles (length p)) (merged (singles (length p)) (down x)) (mem (down x)) single.partition alone merge-down i j wi wj (held i wi ∙ t)
                (held j wj ∙ sym (same_side n p (merged p x) (mem x) pp.partition union merge (rep p i) (rep p j) wu wv e) ∙ t)
            go false f =
                ap (place (merged (singles (length p)) (down x)))
                (sym (rep_place n p pp.partition i wi) ∙ alike_down n p (merged p x) (mem x) pp.partition union merge (rep p i) (rep p j) wu wv f e ∙ rep_place n p pp.partition j wj)

        coarser : (i j : ℕ) → Within (length p) i → Within (length p) j → place (merged (singles (length p)) (down x)) i ≡ place (merged (singles (length p)) (down x)) j → place (downs (merged p x)) i ≡ place (downs (merged p x)) j
        coarser i j wi wj same = go (mem (down x) i) refl
          where
            same_single : (k i j : ℕ) → Within k i → Within k j → place (singles k) i ≡ place (singles k) j → i ≡ j
            same_single k i j wi wj e = sym (own-place k i wi) ∙ e ∙ own-place k j wj

            go : (b : Bool) → mem (down x) i ≡ b → place (downs (merged p x)) i ≡ place (downs (merged p x)) j
            go true t =
                let s = sym (same_side (length p) (singles (length p)) (merged (singles (length p)) (down x)) (mem (down x)) single.partition alone merge-down i j wi wj same) ∙ t in
                at i wi
                ∙ alike_in n p (merged p x) (mem x) pp.partition union merge (rep p i) (rep p j) (rep_in n p pp.partition i wi).0 (rep_in n p pp.partition j wj).0 (sym (held i wi) ∙ t) (sym (held j wj) ∙ s)
                ∙ sym (at j wj)
            go false f =
                let e = alike_down (length p) (singles (length p)) (merged (singles (length p)) (down x)) (mem (down x)) single.partition alone merge-down i j wi wj f same in
                ap (place (downs (merged p x))) (same_single (length p) i j wi wj e)
