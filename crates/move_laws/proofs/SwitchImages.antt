-- The images of blocks under a Switch: the lists that the table of the maps gives are the blocks
-- that the exchange of blocks takes them to, so their last numbers are the names of the images.
use Rattle.graph_core.proofs.from_counting.Common.{◌≡◌, ℕ, Bool, true, false, cond, ◌||◌, ◌&&◌, not, List, length, refl, sym, ap, ap₂, ◌∙◌, arith, same_tests, or_right, mem-rising_list, rising_list-rises, same_rising_list, Within, IsRisingIn, is_subset, last_of, mem, complement, meet, minus, union}
use Rattle.graph_core.proofs.Common.{rep, rep_in, rep_place, place_in, place_is, mem-complement_of, alike_in, alike_up, block_has, block_rises, Graph, IsGraph, AreBlocks, block, complement_of, place, IsUnion}
use Rattle.tree_core.proofs.Common.{kept_at, merged_at, kept_image, merged_image, inner_rest, list_if, meet_list, outer_rest, union_list}
use Rattle.move_laws.proofs.BigShores.{Stage}
use Rattle.move_laws.proofs.CarriedLeaves.{NamesImages}
use Rattle.move_laws.proofs.Rising.{bounds}
use Rattle.move_laws.proofs.ExchangedParts.{in_inner_rest, in_outer_rest, inner_rest-mem, kept_merge, map_a, map_b, merged_merge, outer_rest-mem, rest-union}
use Rattle.move_laws.proofs.Switches.{subset_test}
use Rattle.move_laws.specs.Common.{Corner, Isomorphism}

-- the image of a block has the vertices that the map back takes into the block
image_block : (g : Graph) → IsGraph g → (r s : List (List ℕ)) (h f : ℕ → ℕ) → AreBlocks g.order r → AreBlocks g.order s → Isomorphism g r s h f → (i w : ℕ) → Within (length r) i → Within g.order w →
    mem (block s (place s (h (rep r i)))) w ≡ mem (block r i) (f w)
image_block g is r s h f rp sp iso i w wi ww = same_tests (mem (block s (place s (h (rep r i)))) w) (mem (block r i) (f w)) there back
  where
    wr : Within g.order (rep r i)
    wr = (rep_in g.order r rp i wi).0

    wh : Within g.order (h (rep r i))
    wh = iso.there.within (rep r i) wr

    wf : Within g.order (f w)
    wf = iso.back.within w ww

    there : mem (block s (place s (h (rep r i)))) w ≡ true → mem (block r i) (f w) ≡ true
    there m =
        let e = place_is g.order s sp w (place s (h (rep r i))) ww (place_in g.order s sp (h (rep r i)) wh).0 m in
        let k : place r (f w) ≡ i = iso.back.blocks w (h (rep r i)) ww wh (sym e) ∙ iso.there.again (rep r i) wr ∙ rep_place g.order r rp i wi in
        ap (λ z. mem (block r z) (f w)) (sym k) ∙ (place_in g.order r rp (f w) wf).1

    back : mem (block r i) (f w) ≡ true → mem (block s (place s (h (rep r i)))) w ≡ true
    back m =
        let e = place_is g.order r rp (f w) i wf wi m in
        let k : place s w ≡ place s (h (rep r i)) = sym (iso.back.again w ww) ∙ iso.there.blocks (f w) (rep r i) wf wr (sym e ∙ sym (rep_place g.order r rp i wi)) in
        ap (λ z. mem (block s z) w) (sym k) ∙ (place_in g.order s sp w ww).1

-- a block is a union of blocks
block_closed : (n : ℕ) (r : List (List ℕ)) → AreBlocks n r → (i : ℕ) → Within (length r) i → IsUnion n r (mem (block r i))
block_closed n r rp i wi u v wu wv e = same_tests (mem (block r i) u) (mem (block r i) v) (goes_over u v wu wv e) (goes_over v u wv wu (sym e))
  where
    goes_over : (u v : ℕ) → Within n u → Within n v → place r u ≡ place r v → mem (block r i) u ≡ true → mem (block r i) v ≡ true
    goes_over u v wu wv e m = ap (λ z. mem (block r z) v) (place_is n r rp u i wu wi m ∙ e) ∙ (place_in n r rp v wv).1

-- an increasing list with the vertices that the map back takes into the block is its image
names_from : (g : Graph) → IsGraph g → (h f : ℕ → ℕ) (image_of : List ℕ → List ℕ) (base : List (List ℕ)) → ((b : List ℕ) → IsRisingIn g.order (image_of b)) →
    ((b : List ℕ) → ((u v : ℕ) → Within g.order u → Within g.order v → place base u ≡ place base v → mem b u ≡ mem b v) → (w : ℕ) → Within g.order w → mem (image_of b) w ≡ mem b (f w)) →
    NamesImages g h f (λ b. last_of (image_of b)) base
names_from g is h f image_of base rises tells r s lr ls iso finer i wi =
    ap last_of (same_rising_list g.order (image_of (block r i)) (block s (place s (h (rep r i)))) (rises (block r i)) (block_rises g.order s (block s (place s (h (rep r i)))) ls (block_has s (place s (h (rep r i))) wj))
    (λ w ww. tells (block r i) (λ u v wu wv e. block_closed g.order r lr.partition i wi u v wu wv (finer u v wu wv e)) w ww ∙ sym (image_block g is r s h f lr.partition ls.partition iso i w wi ww)))
  where
    wj : Within (length s) (place s (h (rep r i)))
    wj = (place_in g.order s ls.partition (h (rep r i)) (iso.there.within (rep r i) (rep_in g.order r lr.partition i wi).0)).0

if_mem : (b : Bool) (x : List ℕ) (w : ℕ) → mem (list_if b x) w ≡ (b && mem x w)
if_mem true x w = refl
if_mem false x w = refl

module _ (g : Graph) (p : List (List ℕ)) (stage : Stage g p) (x u v : List ℕ) (s t : ℕ) (sx : IsRisingIn g.order x) (su : IsRisingIn g.order u) (sv : IsRisingIn g.order v) (corner : Corner g p (mem x) (mem u) (mem v) s t) where
  -- a block that is a union of blocks below a child
  abbrev Whole : List (List ℕ) → List ℕ → Type 0
  Whole base b = (u v : ℕ) → Within g.order u → Within g.order v → place base u ≡ place base v → mem b u ≡ mem b v

  outside_alike : (w z : ℕ) → Within g.order w → Within g.order z → mem x w ≡ false → mem x z ≡ false → place (kept_at g.order p x) w ≡ place (kept_at g.order p x) z
  outside_alike w z ww wz hw hz =
      alike_in g.order p (kept_at g.order p x) (mem (complement_of g.order x)) stage.list.partition (rest-union g p stage x u v s t sx su sv corner) (kept_merge g p stage x u v s t sx su sv corner) w z ww wz
      (mem-complement_of g.order x w ww ∙ ap not hw) (mem-complement_of g.order x z wz ∙ ap not hz)

  pub u_alike : (w : ℕ) → Within g.order w → mem u w ≡ true → place (kept_at g.order p x) w ≡ place (kept_at g.order p x) s
  u_alike w ww m =
      alike_up g.order p (kept_at g.order p x) (mem (complement_of g.order x)) stage.list.partition (rest-union g p stage x u v s t sx su sv corner) (kept_merge g p stage x u v s t sx su sv corner) w s ww corner.left.within (corner.left.one w ww m)

  inside_alike : (w z : ℕ) → Within g.order w → Within g.order z → mem x w ≡ true → mem x z ≡ true → place (merged_at g.order p x) w ≡ place (merged_at g.order p x) z
  inside_alike = alike_in g.order p (merged_at g.order p x) (mem x) stage.list.partition corner.shore.union (merged_merge g p stage x u v s t sx su sv corner)

  v_alike : (w : ℕ) → Within g.order w → mem v w ≡ true → place (merged_at g.order p x) w ≡ place (merged_at g.order p x) t
  v_alike w ww m = alike_up g.order p (merged_at g.order p x) (mem x) stage.list.partition corner.shore.union (merged_merge g p stage x u v s t sx su sv corner) w t ww corner.right.within (corner.right.one w ww m)

  s_inside : mem x s ≡ true
  s_inside = corner.inside s corner.left.within corner.left.holds

  t_outside : mem x t ≡ false
  t_outside = corner.outside t corner.right.within corner.right.holds

  kept_tells : (b : List ℕ) → Whole (kept_at g.order p x) b → (w : ℕ) → Within g.order w → mem (kept_image g.order x u v b) w ≡ mem b (map_a g p stage x u v s t sx su sv corner w)
  kept_tells b whole w ww =
      mem-rising_list g.order (union (mem (meet_list g.order b (inner_rest g.order x u))) (mem (union_list g.order (list_if (is_subset u b) (union_list g.order (outer_rest g.order x v) u)) (list_if (is_subset (union_list g.order (outer_rest g.order x v) v) b) v)))) w ww
      ∙ ap₂ ◌||◌ (mem-rising_list g.order (meet (mem b) (mem (inner_rest g.order x u))) w ww ∙ ap (λ k. mem b w && k) (inner_rest-mem g p stage x u v s t sx su sv corner w ww))
      (mem-rising_list g.order (union (mem (list_if (is_subset u b) (union_list g.order (outer_rest g.order x v) u))) (mem (list_if (is_subset (union_list g.order (outer_rest g.order x v) v) b) v))) w ww
      ∙ ap₂ ◌||◌ (if_mem (is_subset u b) (union_list g.order (outer_rest g.order x v) u) w
      ∙ ap₂ ◌&&◌ with_u (mem-rising_list g.order (union (mem (outer_rest g.order x v)) (mem u)) w ww ∙ ap (λ k. k || mem u w) (outer_rest-mem g p stage x u v s t sx su sv corner w ww)))
      (if_mem (is_subset (union_list g.order (outer_rest g.order x v) v) b) v w ∙ ap (λ k. k && mem v w) with_outer))
      ∙ bits (mem x w) (mem u w) (mem v w) (mem b w) (mem b s) (mem b t) (corner.inside w ww) (corner.outside w ww) (λ m. whole w s ww corner.left.within (u_alike w ww m)) (λ m. whole w t ww corner.right.within (outside_alike w t ww corner.right.within m t_outside))
      ∙ sym (turned (minus (complement (mem x)) (mem v) w))
    where
      with_u : is_subset u b ≡ mem b s
      with_u = subset_test u (mem b) s corner.left.holds (λ z m. let wz = bounds su z m in whole z s wz corner.left.within (u_alike z wz m))

      out : (z : ℕ) → mem (union_list g.order (outer_rest g.order x v) v) z ≡ true → mem x z ≡ false
      out z m =
          let wz = bounds (rising_list-rises g.order (union (mem (outer_rest g.order x v)) (mem v))) z m in
          off (mem x z) (mem v z) (corner.outside z wz) (ap (λ k. k || mem v z) (sym (outer_rest-mem g p stage x u v s t sx su sv corner z wz)) ∙ sym (mem-rising_list g.order (union (mem (outer_rest g.order x v)) (mem v)) z wz) ∙ m)
        where
          off : (x v : Bool) → (v ≡ true → x ≡ false) → ((not x && not v) || v) ≡ true → x ≡ false
          off x v h k = grind arith

      t_in : mem (union_list g.order (outer_rest g.order x v) v) t ≡ true
      t_in = mem-rising_list g.order (union (mem (outer_rest g.order x v)) (mem v)) t corner.right.within ∙ or_right (mem (outer_rest g.order x v) t) (mem v t) corner.right.holds

      with_outer : is_subset (union_list g.order (outer_rest g.order x v) v) b ≡ mem b t
      with_outer = subset_test (union_list g.order (outer_rest g.order x v) v) (mem b) t t_in (λ z m. let wz = bounds (rising_list-rises g.order (union (mem (outer_rest g.order x v)) (mem v))) z m in whole z t wz corner.right.within (outside_alike z t wz corner.right.within (out z m) t_outside))

      turned : (c : Bool) → mem b (cond c s w) ≡ cond c (mem b s) (mem b w)
      turned true = refl
      turned false = refl

      bits : (x u v b d e : Bool) → (u ≡ true → x ≡ true) → (v ≡ true → x ≡ false) → (u ≡ true → b ≡ d) → (x ≡ false → b ≡ e) → ((b && (x && not u)) || ((d && ((not x && not v) || u)) || (e && v))) ≡ cond (not x && not v) d b
      bits true true v b d e h k l m = grind arith
      bits true false v b d e h k l m = grind arith
      bits false u true b d e h k l m = grind arith
      bits false u false b d e h k l m = grind arith

  merged_tells : (b : List ℕ) → Whole (merged_at g.order p x) b → (w : ℕ) → Within g.order w → mem (merged_image g.order x u v b) w ≡ mem b (map_b g p stage x u v s t sx su sv corner w)
  merged_tells b whole w ww =
      mem-rising_list g.order (union (mem (meet_list g.order b (outer_rest g.order x v))) (mem (union_list g.order (list_if (is_subset v b) (union_list g.order (inner_rest g.order x u) v)) (list_if (is_subset x b) u)))) w ww
      ∙ ap₂ ◌||◌ (mem-rising_list g.order (meet (mem b) (mem (outer_rest g.order x v))) w ww ∙ ap (λ k. mem b w && k) (outer_rest-mem g p stage x u v s t sx su sv corner w ww))
      (mem-rising_list g.order (union (mem (list_if (is_subset v b) (union_list g.order (inner_rest g.order x u) v))) (mem (list_if (is_subset x b) u))) w ww
      ∙ ap₂ ◌||◌ (if_mem (is_subset v b) (union_list g.order (inner_rest g.order x u) v) w
      ∙ ap₂ ◌&&◌ with_v (mem-rising_list g.order (union (mem (inner_rest g.order x u)) (mem v)) w ww ∙ ap (λ k. k || mem v w) (inner_rest-mem g p stage x u v s t sx su sv corner w ww)))
      (if_mem (is_subset x b) u w ∙ ap (λ k. k && mem u w) with_x))
      ∙ bits (mem x w) (mem u w) (mem v w) (mem b w) (mem b t) (mem b s) (corner.inside w ww) (corner.outside w ww) (λ m. whole w t ww corner.right.within (v_alike w ww m)) (λ m. whole w s ww corner.left.within (inside_alike w s ww corner.left.within m s_inside))
      ∙ sym (turned (minus (mem x) (mem u) w))
    where
      with_v : is_subset v b ≡ mem b t
      with_v = subset_test v (mem b) t corner.right.holds (λ z m. let wz = bounds sv z m in whole z t wz corner.right.within (v_alike z wz m))

      with_x : is_subset x b ≡ mem b s
      with_x = subset_test x (mem b) s s_inside (λ z m. let wz = bounds sx z m in whole z s wz corner.left.within (inside_alike z s wz corner.left.within m s_inside))

      turned : (c : Bool) → mem b (cond c t w) ≡ cond c (mem b t) (mem b w)
      turned true = refl
      turned false = refl

      bits : (x u v b d e : Bool) → (u ≡ true → x ≡ true) → (v ≡ true → x ≡ false) → (v ≡ true → b ≡ d) → (x ≡ true → b ≡ e) → ((b && (not x && not v)) || ((d && ((x && not u) || v)) || (e && u))) ≡ cond (x && not u) d b
      bits true true v b d e h k l m = grind arith
      bits true false v b d e h k l m = grind arith
      bits false u true b d e h k l m = grind arith
      bits false u false b d e h k l m = grind arith

  -- the names of the images below `kept`
  pub kept_names : NamesImages g (λ w. cond (in_outer_rest g p stage x u v s t sx su sv corner w) t w) (map_a g p stage x u v s t sx su sv corner) (λ b. last_of (kept_image g.order x u v b)) (kept_at g.order p x)
  kept_names = names_from g stage.graph (λ w. cond (in_outer_rest g p stage x u v s t sx su sv corner w) t w) (map_a g p stage x u v s t sx su sv corner) (kept_image g.order x u v) (kept_at g.order p x)
      (λ b. rising_list-rises g.order _) kept_tells

  -- and below `merged`
  pub merged_names : NamesImages g (λ w. cond (in_inner_rest g p stage x u v s t sx su sv corner w) s w) (map_b g p stage x u v s t sx su sv corner) (λ b. last_of (merged_image g.order x u v b)) (merged_at g.order p x)
  merged_names = names_from g stage.graph (λ w. cond (in_inner_rest g p stage x u v s t sx su sv corner w) s w) (map_b g p stage x u v s t sx su sv corner) (merged_image g.order x u v) (merged_at g.order p x)
      (λ b. rising_list-rises g.order _) merged_tells
