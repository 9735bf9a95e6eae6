-- The leaves under a Switch, at its node: those of the two trees, in the order and by the names
-- that the maps give.
use Rattle.move_laws.specs.Common.{AreRising, Corner, carry}
use Rattle.graph_core.proofs.from_counting.Common.{◌≡◌, ℕ, ◌+◌, Bool, true, false, cond, ◌||◌, ◌&&◌, not, List, [], ◌++◌, map, if◌then◌else◌, refl, sym, ap, ap₂, ◌∙◌, arith, subst, and_parts, not-true, mem-rising_list, all_in_true, Within, IsRisingIn, is_subset, last_of, mem, Set, complement, minus, union}
use Rattle.graph_core.proofs.Common.{tight_congr, tight_rest, mem-complement_of, Graph, IsMerge, complement_of, IsTightAt, IsUnion}
use Rattle.tree_core.proofs.Common.{length-leaves_at, IsCutAt, IsDerivationAt, kept_at, merged_at, kept_image, kept_order_if_greatest_stays, merged_image, numbers, switch_names, switch_order, leaves_at, IsBlockOf, inner_rest, is_proper, kept_if_greatest_stays, kept_if_greatest_comes, merged_if_greatest_stays, merged_if_greatest_comes, outer_rest, union_list, Shape, cut, leaf, leaf_count}
use Rattle.move_laws.proofs.Alignments.{numbers-split}
use Rattle.move_laws.proofs.BigShores.{Big, Stage, big_rest, cut_big, stage_merged}
use Rattle.move_laws.proofs.CarriedLeaves.{carried_parts, carry_order}
use Rattle.move_laws.proofs.Parts.{Part, part-join, part-turn}
use Rattle.move_laws.proofs.Rising.{bounds}
use Rattle.move_laws.proofs.SwitchImages.{kept_names, merged_names, u_alike}
use Rattle.move_laws.proofs.Switches.{Each, each_of, in_inner_rest, in_outer_rest, iso_a, iso_b, kept_greatest_stays, kept_greatest_comes, map_a, map_b, merged_greatest_stays, merged_greatest_comes, new_shore_comes, new_shore_stays, subset_test, switch_greatest_stays, switch_greatest_comes}

-- where no complement is taken the order stays
plain_order : (n : ℕ) (f : ℕ → ℕ) (q : List (List ℕ)) (t : Shape) → Each n q t → ((y : List ℕ) → mem y n ≡ false → IsUnion n q (mem y) → mem y (f n) ≡ false) → (k : ℕ) → carry_order n f k t ≡ numbers k (leaf_count t)
plain_order n f q leaf e h k = refl
plain_order n f q (cut y a b) e h k =
    ap (λ c. cond c (carry_order n f (k + leaf_count a) b ++ carry_order n f k a) (carry_order n f k a ++ carry_order n f (k + leaf_count a) b)) (h y e.0 e.1)
    ∙ ap₂ ◌++◌ (plain_order n f q a e.2 h k) (plain_order n f q b e.3 h (k + leaf_count a)) ∙ sym (numbers-split k (leaf_count a) (leaf_count b))

-- where complements are taken as the shores contain u
turned_order : (n : ℕ) (f : ℕ → ℕ) (u : List ℕ) (q : List (List ℕ)) (t : Shape) → Each n q t → ((y : List ℕ) → mem y n ≡ false → IsUnion n q (mem y) → is_subset u y ≡ mem y (f n)) → (k : ℕ) → kept_order_if_greatest_stays u k t ≡ carry_order n f k t
turned_order n f u q leaf e h k = refl
turned_order n f u q (cut y a b) e h k =
    ap (λ c. if c then kept_order_if_greatest_stays u (k + leaf_count a) b ++ kept_order_if_greatest_stays u k a else kept_order_if_greatest_stays u k a ++ kept_order_if_greatest_stays u (k + leaf_count a) b) (h y e.0 e.1)
    ∙ go (mem y (f n)) (turned_order n f u q a e.2 h k) (turned_order n f u q b e.3 h (k + leaf_count a))
  where
    go : (c : Bool) → kept_order_if_greatest_stays u k a ≡ carry_order n f k a → kept_order_if_greatest_stays u (k + leaf_count a) b ≡ carry_order n f (k + leaf_count a) b →
        (if c then kept_order_if_greatest_stays u (k + leaf_count a) b ++ kept_order_if_greatest_stays u k a else kept_order_if_greatest_stays u k a ++ kept_order_if_greatest_stays u (k + leaf_count a) b)
        ≡ cond c (carry_order n f (k + leaf_count a) b ++ carry_order n f k a) (carry_order n f k a ++ carry_order n f (k + leaf_count a) b)
    go true i j = ap₂ ◌++◌ j i
    go false i j = ap₂ ◌++◌ i j

module _ (g : Graph) (p : List (List ℕ)) (stage : Stage g p) (x u v : List ℕ) (s t : ℕ) (bx : Big g p x) (canonical : mem x g.order ≡ false) (su : IsRisingIn g.order u) (sv : IsRisingIn g.order v) (corner : Corner g p (mem x) (mem u) (mem v) s t) where
  kept_stage : Stage g (kept_at g.order p x)
  kept_stage = stage_merged g p stage (complement_of g.order x) (big_rest g p stage x bx)

  merged_stage : Stage g (merged_at g.order p x)
  merged_stage = stage_merged g p stage x bx

  -- the leaves of `kept`, wherever its tree is carried to
  below_kept : (k : ℕ) (a c : Shape) (q : List (List ℕ)) → AreRising g.order a → IsDerivationAt g (kept_at g.order p x) a → Stage g q → IsMerge g.order p (union (in_outer_rest g p stage x u v s t bx canonical su sv corner) (mem u)) q →
      c ≡ carry g.order (map_a g p stage x u v s t bx canonical su sv corner) a →
      Part g k (leaves_at g.order (kept_at g.order p x) a) (leaves_at g.order q c) (carry_order g.order (map_a g p stage x u v s t bx canonical su sv corner) k a) (map (λ (r : List (List ℕ)). map (λ b. last_of (kept_image g.order x u v b)) r) (leaves_at g.order (kept_at g.order p x) a))
  below_kept k a c q f d sq mq e =
      subst (λ c. Part g k (leaves_at g.order (kept_at g.order p x) a) (leaves_at g.order q c) (carry_order g.order (map_a g p stage x u v s t bx canonical su sv corner) k a) (map (λ (r : List (List ℕ)). map (λ b. last_of (kept_image g.order x u v b)) r) (leaves_at g.order (kept_at g.order p x) a))) (sym e)
      (carried_parts g stage.graph (λ w. cond (in_outer_rest g p stage x u v s t bx canonical su sv corner w) t w) (map_a g p stage x u v s t bx canonical su sv corner) (λ b. last_of (kept_image g.order x u v b)) (kept_at g.order p x) (kept_names g p stage x u v s t bx.shore su sv corner) a
      k (kept_at g.order p x) q kept_stage.list sq.list kept_stage.covered (iso_a g p stage x u v s t bx canonical su sv corner q mq) (λ u v wu wv same. same) f d)

  below_merged : (k : ℕ) (b c : Shape) (q : List (List ℕ)) → AreRising g.order b → IsDerivationAt g (merged_at g.order p x) b → Stage g q → IsMerge g.order p (union (in_inner_rest g p stage x u v s t bx canonical su sv corner) (mem v)) q →
      c ≡ carry g.order (map_b g p stage x u v s t bx canonical su sv corner) b →
      Part g k (leaves_at g.order (merged_at g.order p x) b) (leaves_at g.order q c) (carry_order g.order (map_b g p stage x u v s t bx canonical su sv corner) k b) (map (λ (r : List (List ℕ)). map (λ b. last_of (merged_image g.order x u v b)) r) (leaves_at g.order (merged_at g.order p x) b))
  below_merged k b c q f d sq mq e =
      subst (λ c. Part g k (leaves_at g.order (merged_at g.order p x) b) (leaves_at g.order q c) (carry_order g.order (map_b g p stage x u v s t bx canonical su sv corner) k b) (map (λ (r : List (List ℕ)). map (λ b. last_of (merged_image g.order x u v b)) r) (leaves_at g.order (merged_at g.order p x) b))) (sym e)
      (carried_parts g stage.graph (λ w. cond (in_inner_rest g p stage x u v s t bx canonical su sv corner w) s w) (map_b g p stage x u v s t bx canonical su sv corner) (λ b. last_of (merged_image g.order x u v b)) (merged_at g.order p x) (merged_names g p stage x u v s t bx.shore su sv corner) b
      k (merged_at g.order p x) q merged_stage.list sq.list merged_stage.covered (iso_b g p stage x u v s t bx canonical su sv corner q mq) (λ u v wu wv same. same) f d)

  -- the order below `merged` stays
  merged_plain : (b : Shape) → Each g.order (merged_at g.order p x) b → (k : ℕ) → carry_order g.order (map_b g p stage x u v s t bx canonical su sv corner) k b ≡ numbers k (leaf_count b)
  merged_plain b e k = plain_order g.order (map_b g p stage x u v s t bx canonical su sv corner) (merged_at g.order p x) b e (λ y low closed. ap (λ c. mem y (cond c t g.order)) (off (mem x g.order) (mem u g.order) canonical) ∙ low) k
    where
      off : (x u : Bool) → x ≡ false → (x && not u) ≡ false
      off x u h = grind arith

  kept_plain : mem v g.order ≡ true → (a : Shape) → Each g.order (kept_at g.order p x) a → (k : ℕ) → carry_order g.order (map_a g p stage x u v s t bx canonical su sv corner) k a ≡ numbers k (leaf_count a)
  kept_plain nv a e k = plain_order g.order (map_a g p stage x u v s t bx canonical su sv corner) (kept_at g.order p x) a e (λ y low closed. ap (λ c. mem y (cond c s g.order)) (off (mem x g.order) (mem v g.order) nv) ∙ low) k
    where
      off : (x v : Bool) → v ≡ true → (not x && not v) ≡ false
      off x v h = grind arith

  kept_turned : mem v g.order ≡ false → (a : Shape) → Each g.order (kept_at g.order p x) a → (k : ℕ) → kept_order_if_greatest_stays u k a ≡ carry_order g.order (map_a g p stage x u v s t bx canonical su sv corner) k a
  kept_turned nv a e k = turned_order g.order (map_a g p stage x u v s t bx canonical su sv corner) u (kept_at g.order p x) a e (λ y low closed.
      subset_test u (mem y) s corner.left.holds (λ w m. let ww = bounds su w m in closed w s ww corner.left.within (u_alike g p stage x u v s t bx.shore su sv corner w ww m))
      ∙ sym (ap (λ c. mem y (cond c s g.order)) (on (mem x g.order) (mem v g.order) canonical nv))) k
    where
      on : (x v : Bool) → x ≡ false → v ≡ false → (not x && not v) ≡ true
      on x v h k = grind arith

  -- the leaves below each side, and the names of the images of their blocks
  abbrev kept_leaves : Shape → List (List (List ℕ))
  kept_leaves a = leaves_at g.order (kept_at g.order p x) a

  abbrev merged_leaves : Shape → List (List (List ℕ))
  merged_leaves b = leaves_at g.order (merged_at g.order p x) b

  abbrev kept_images : Shape → List (List ℕ)
  kept_images a = map (λ (r : List (List ℕ)). map (λ b. last_of (kept_image g.order x u v b)) r) (kept_leaves a)

  abbrev merged_images : Shape → List (List ℕ)
  merged_images b = map (λ (r : List (List ℕ)). map (λ b. last_of (merged_image g.order x u v b)) r) (merged_leaves b)

  -- the Switch with the highest-numbered vertex in v
  pub switch_part_v : (k : ℕ) (a b : Shape) → AreRising g.order (cut x a b) → IsDerivationAt g p (cut x a b) → mem v g.order ≡ true → Big g p (union_list g.order (outer_rest g.order x v) u) →
      Part g k (leaves_at g.order p (cut x a b)) (leaves_at g.order p (cut (union_list g.order (outer_rest g.order x v) u) (merged_if_greatest_comes g.order x u b) (kept_if_greatest_comes g.order x u v a)))
      (numbers (k + leaf_count a) (leaf_count b) ++ numbers k (leaf_count a)) (switch_names g.order u v p (cut x a b))
  switch_part_v k a b f d nv bz =
      let z = union_list g.order (outer_rest g.order x v) u in
      let new = new_shore_comes g p stage x u v s t bx canonical su sv corner bz in
      let rz = big_rest g p stage z bz in
      let ea = each_of g (kept_at g.order p x) a kept_stage f.1 d.1 in let eb = each_of g (merged_at g.order p x) b merged_stage f.2 d.2 in
      part-turn g k (kept_leaves a) (leaves_at g.order (merged_at g.order p z) (kept_if_greatest_comes g.order x u v a)) (merged_leaves b) (leaves_at g.order (kept_at g.order p z) (merged_if_greatest_comes g.order x u b)) (numbers k (leaf_count a)) (numbers (k + leaf_count a) (leaf_count b)) (kept_images a) (merged_images b)
      (subst (λ (o : List ℕ). Part g k (kept_leaves a) (leaves_at g.order (merged_at g.order p z) (kept_if_greatest_comes g.order x u v a)) o (kept_images a)) (kept_plain nv a ea k)
      (below_kept k a (kept_if_greatest_comes g.order x u v a) (merged_at g.order p z) f.1 d.1 (stage_merged g p stage z bz) new.merged (kept_greatest_comes g p stage x u v s t bx canonical su sv corner nv a f.1 ea)))
      (subst (λ i. Part g i (merged_leaves b) (leaves_at g.order (kept_at g.order p z) (merged_if_greatest_comes g.order x u b)) (numbers (k + leaf_count a) (leaf_count b)) (merged_images b)) (ap (λ i. k + i) (sym (length-leaves_at g.order (kept_at g.order p x) a)))
      (subst (λ (o : List ℕ). Part g (k + leaf_count a) (merged_leaves b) (leaves_at g.order (kept_at g.order p z) (merged_if_greatest_comes g.order x u b)) o (merged_images b)) (merged_plain b eb (k + leaf_count a))
      (below_merged (k + leaf_count a) b (merged_if_greatest_comes g.order x u b) (kept_at g.order p z) f.2 d.2 (stage_merged g p stage (complement_of g.order z) rz) new.kept (merged_greatest_comes g p stage x u v s t bx canonical su sv corner nv b f.2 eb))))

  -- and outside v
  pub switch_part_q : (k : ℕ) (a b : Shape) → AreRising g.order (cut x a b) → IsDerivationAt g p (cut x a b) → mem v g.order ≡ false → Big g p (union_list g.order (inner_rest g.order x u) v) →
      Part g k (leaves_at g.order p (cut x a b)) (leaves_at g.order p (cut (union_list g.order (inner_rest g.order x u) v) (kept_if_greatest_stays g.order x u v a) (merged_if_greatest_stays g.order x u v b)))
      (kept_order_if_greatest_stays u k a ++ numbers (k + leaf_count a) (leaf_count b)) (switch_names g.order u v p (cut x a b))
  switch_part_q k a b f d nv bz =
      let z = union_list g.order (inner_rest g.order x u) v in
      let new = new_shore_stays g p stage x u v s t bx canonical su sv corner bz in
      let rz = big_rest g p stage z bz in
      let ea = each_of g (kept_at g.order p x) a kept_stage f.1 d.1 in let eb = each_of g (merged_at g.order p x) b merged_stage f.2 d.2 in
      part-join g k (kept_leaves a) (leaves_at g.order (kept_at g.order p z) (kept_if_greatest_stays g.order x u v a)) (merged_leaves b) (leaves_at g.order (merged_at g.order p z) (merged_if_greatest_stays g.order x u v b)) (kept_order_if_greatest_stays u k a) (numbers (k + leaf_count a) (leaf_count b)) (kept_images a) (merged_images b)
      (subst (λ (o : List ℕ). Part g k (kept_leaves a) (leaves_at g.order (kept_at g.order p z) (kept_if_greatest_stays g.order x u v a)) o (kept_images a)) (sym (kept_turned nv a ea k))
      (below_kept k a (kept_if_greatest_stays g.order x u v a) (kept_at g.order p z) f.1 d.1 (stage_merged g p stage (complement_of g.order z) rz) new.kept (kept_greatest_stays g p stage x u v s t bx canonical su sv corner nv a f.1 ea)))
      (subst (λ i. Part g i (merged_leaves b) (leaves_at g.order (merged_at g.order p z) (merged_if_greatest_stays g.order x u v b)) (numbers (k + leaf_count a) (leaf_count b)) (merged_images b)) (ap (λ i. k + i) (sym (length-leaves_at g.order (kept_at g.order p x) a)))
      (subst (λ (o : List ℕ). Part g (k + leaf_count a) (merged_leaves b) (leaves_at g.order (merged_at g.order p z) (merged_if_greatest_stays g.order x u v b)) o (merged_images b)) (merged_plain b eb (k + leaf_count a))
      (below_merged (k + leaf_count a) b (merged_if_greatest_stays g.order x u v b) (merged_at g.order p z) f.2 d.2 (stage_merged g p stage z bz) new.merged (merged_greatest_stays g p stage x u v s t bx canonical su sv corner nv b f.2 eb))))

-- a proper Switch whose result is a derivation
module _ (g : Graph) (p : List (List ℕ)) (stage : Stage g p) (x u v : List ℕ) (su : IsRisingIn g.order u) (sv : IsRisingIn g.order v) (s t : ℕ) (bu : IsBlockOf g.order p (mem u) s) (bv : IsBlockOf g.order p (mem v) t) (a b : Shape) (f : AreRising g.order (cut x a b)) (d : IsDerivationAt g p (cut x a b))
    (proper : (is_proper u x && is_proper v (complement_of g.order x)) ≡ true) where
  inside : (w : ℕ) → Within g.order w → mem u w ≡ true → mem x w ≡ true
  inside w ww m = grind (arith, and_parts, is_proper, complement_of, all_in_true, mem, is_subset)

  outside : (w : ℕ) → Within g.order w → mem v w ≡ true → mem x w ≡ false
  outside w ww m = grind (arith, and_parts, is_proper, complement_of, all_in_true, mem, is_subset, not-true, mem-complement_of)

  outer_in : (w : ℕ) → Within g.order w → mem (outer_rest g.order x v) w ≡ (not (mem x w) && not (mem v w))
  outer_in w ww = mem-rising_list g.order (minus (mem (complement_of g.order x)) (mem v)) w ww ∙ ap (λ k. k && not (mem v w)) (mem-complement_of g.order x w ww)

  inner_in : (w : ℕ) → Within g.order w → mem (inner_rest g.order x u) w ≡ (mem x w && not (mem u w))
  inner_in w ww = mem-rising_list g.order (minus (mem x) (mem u)) w ww

  new_shore : Set
  new_shore = union (minus (complement (mem x)) (mem v)) (mem u)

  corner_of : IsTightAt g p new_shore → Corner g p (mem x) (mem u) (mem v) s t
  unfolding new_shore
  corner_of new = record { shore = d.0.tight; left = bu; right = bv; inside = inside; outside = outside; new = new }

  tight_v : IsTightAt g p (mem (union_list g.order (outer_rest g.order x v) u)) → IsTightAt g p new_shore
  unfolding new_shore
  tight_v = tight_congr g stage.graph p stage.list.partition (mem (union_list g.order (outer_rest g.order x v) u)) (union (minus (complement (mem x)) (mem v)) (mem u))
      (λ w ww. mem-rising_list g.order (union (mem (outer_rest g.order x v)) (mem u)) w ww ∙ ap (λ k. k || mem u w) (outer_in w ww))

  tight_q : IsTightAt g p (mem (union_list g.order (inner_rest g.order x u) v)) → IsTightAt g p new_shore
  unfolding new_shore
  tight_q new = tight_congr g stage.graph p stage.list.partition (complement (mem (union_list g.order (inner_rest g.order x u) v))) (union (minus (complement (mem x)) (mem v)) (mem u))
      (λ w ww. ap not (mem-rising_list g.order (union (mem (inner_rest g.order x u)) (mem v)) w ww ∙ ap (λ k. k || mem v w) (inner_in w ww)) ∙ other (mem x w) (mem u w) (mem v w) (inside w ww) (outside w ww))
      (tight_rest g stage.graph p stage.list.partition (mem (union_list g.order (inner_rest g.order x u) v)) new)
    where
      other : (x u v : Bool) → (u ≡ true → x ≡ true) → (v ≡ true → x ≡ false) → not ((x && not u) || v) ≡ ((not x && not v) || u)
      other x u v h k = grind arith

  made : Bool → Shape
  made m = if m then cut (union_list g.order (outer_rest g.order x v) u) (merged_if_greatest_comes g.order x u b) (kept_if_greatest_comes g.order x u v a) else cut (union_list g.order (inner_rest g.order x u) v) (kept_if_greatest_stays g.order x u v a) (merged_if_greatest_stays g.order x u v b)

  order_of : Bool → ℕ → List ℕ
  order_of m k = if m then numbers (k + leaf_count a) (leaf_count b) ++ numbers k (leaf_count a) else kept_order_if_greatest_stays u k a ++ numbers (k + leaf_count a) (leaf_count b)

  pub switch_part : (k : ℕ) (r : Shape) → IsDerivationAt g p r → (if mem v g.order then cut (union_list g.order (outer_rest g.order x v) u) (merged_if_greatest_comes g.order x u b) (kept_if_greatest_comes g.order x u v a) else cut (union_list g.order (inner_rest g.order x u) v) (kept_if_greatest_stays g.order x u v a) (merged_if_greatest_stays g.order x u v b)) ≡ r →
      Part g k (leaves_at g.order p (cut x a b)) (leaves_at g.order p r) (switch_order g.order u v k (cut x a b)) (switch_names g.order u v p (cut x a b))
  unfolding made order_of
  switch_part k r dr e = subst (λ r. Part g k (leaves_at g.order p (cut x a b)) (leaves_at g.order p r) (switch_order g.order u v k (cut x a b)) (switch_names g.order u v p (cut x a b))) e (go (mem v g.order) refl (subst (IsDerivationAt g p) (sym e) dr))
    where
      bx : Big g p x
      bx = cut_big g p stage x f.0 d.0

      go : (m : Bool) → mem v g.order ≡ m → IsDerivationAt g p (made m) → Part g k (leaves_at g.order p (cut x a b)) (leaves_at g.order p (made m)) (order_of m k) (switch_names g.order u v p (cut x a b))
      go true nv dm = switch_part_v g p stage x u v s t bx d.0.canonical su sv (corner_of (tight_v dm.0.tight)) k a b f d nv (cut_big g p stage (union_list g.order (outer_rest g.order x v) u) dm.0.set dm.0)
      go false nv dm = switch_part_q g p stage x u v s t bx d.0.canonical su sv (corner_of (tight_q dm.0.tight)) k a b f d nv (cut_big g p stage (union_list g.order (inner_rest g.order x u) v) dm.0.set dm.0)

  -- the result is a derivation where its new shore is canonical, nontrivial and tight
  pub switch_derives : (z : List ℕ) (c e : Shape) → IsCutAt g p z → (if mem v g.order then cut (union_list g.order (outer_rest g.order x v) u) (merged_if_greatest_comes g.order x u b) (kept_if_greatest_comes g.order x u v a) else cut (union_list g.order (inner_rest g.order x u) v) (kept_if_greatest_stays g.order x u v a) (merged_if_greatest_stays g.order x u v b)) ≡ cut z c e → IsDerivationAt g p (cut z c e)
  unfolding made
  switch_derives z c e cz same = subst (IsDerivationAt g p) same (go (mem v g.order) refl (subst (IsCutAt g p) (sym (ap root same)) cz))
    where
      root : Shape → List ℕ
      root leaf = []
      root (cut s k m) = s

      bx : Big g p x
      bx = cut_big g p stage x f.0 d.0

      go : (m : Bool) → mem v g.order ≡ m → IsCutAt g p (root (made m)) → IsDerivationAt g p (made m)
      go true nv cm = switch_greatest_comes g p stage x u v s t bx d.0.canonical su sv (corner_of (tight_v cm.tight)) a b f d nv (cut_big g p stage (union_list g.order (outer_rest g.order x v) u) cm.set cm)
      go false nv cm = switch_greatest_stays g p stage x u v s t bx d.0.canonical su sv (corner_of (tight_q cm.tight)) a b f d nv (cut_big g p stage (union_list g.order (inner_rest g.order x u) v) cm.set cm)
