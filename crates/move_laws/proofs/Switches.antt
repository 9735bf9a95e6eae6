-- A proper Switch keeps derivations. Idea: in each of its four rows the exchange law gives
-- partitions that are the same leaf, and the subtrees are carried along the names of the blocks.
use Rattle.move_laws.specs.Common.{AreRising, Corner, Isomorphism, carry, carry_cut}
use Rattle.graph_core.proofs.from_counting.Common.{Bool, List, ap, ap₂, arith, cond, false, if◌then◌else◌, not, refl, subst, sym, true, ℕ, ◌&&◌, ◌||◌, ◌∙◌, ◌≡◌, both_ways, cases_Bool, mem-rising_list, rising_list-rises, same_rising_list, true_all_in, all_in_true, Within, IsRisingIn, all_in, is_subset, mem, rising_list, Set, minus, union}
use Rattle.graph_core.proofs.Common.{mem-complement_of, alike_in, alike_up, closed_up, Graph, IsMerge, complement_of, merged, IsUnion}
use Rattle.tree_core.proofs.Common.{IsDerivationAt, kept_at, merged_at, inner_rest, kept_if_greatest_stays, kept_if_greatest_comes, list_if, merged_if_greatest_stays, merged_if_greatest_comes, merged_shore_if_greatest_stays, minus_list, outer_rest, union_list, Shape, cut, leaf}
use Rattle.move_laws.proofs.BigShores.{Big, Stage, big_cut, big_merge, big_rest, big_some, cut_big, stage_merged}
use Rattle.move_laws.proofs.CarriedTrees.{carried_derives}
use Rattle.move_laws.proofs.ExchangedParts
use Rattle.move_laws.proofs.ExchangedParts.{merge_congr}
use Rattle.move_laws.proofs.Rising.{bounds}

-- each shore of the tree is canonical and a union of blocks of q
abbrev pub Each : ℕ → List (List ℕ) → Shape → Type 0
Each n q leaf = Unit {0}
Each n q (cut s a b) = (mem s n ≡ false) × IsUnion n q (mem s) × Each n q a × Each n q b

pub each_up : (n : ℕ) (q r : List (List ℕ)) → ((y : Set) → IsUnion n r y → IsUnion n q y) → (t : Shape) → Each n r t → Each n q t
each_up n q r f leaf e = tt
each_up n q r f (cut s a b) e = (e.0, f (mem s) e.1, each_up n q r f a e.2, each_up n q r f b e.3)

pub each_of : (g : Graph) (q : List (List ℕ)) (t : Shape) → Stage g q → AreRising g.order t → IsDerivationAt g q t → Each g.order q t
each_of g q leaf st f d = tt
each_of g q (cut s a b) st f d =
    let big = cut_big g q st s f.0 d.0 in
    let rb = big_rest g q st s big in (
      d.0.canonical,
      d.0.tight.union,
      each_up g.order q (kept_at g.order q s) (closed_up g.order q (merged q (complement_of g.order s)) (mem (complement_of g.order s)) st.list.partition rb.tight.union (big_merge g q st (complement_of g.order s) rb)) a
          (each_of g (kept_at g.order q s) a (stage_merged g q st (complement_of g.order s) rb) f.1 d.1),
      each_up g.order q (merged_at g.order q s) (closed_up g.order q (merged q s) (mem s) st.list.partition big.tight.union (big_merge g q st s big)) b
          (each_of g (merged_at g.order q s) b (stage_merged g q st s big) f.2 d.2),
    )

pub subset_test : (u : List ℕ) (y : Set) (s : ℕ) → mem u s ≡ true → ((w : ℕ) → mem u w ≡ true → y w ≡ y s) → all_in u y ≡ y s
subset_test u y s h k = grind (arith, cases_Bool, true_all_in, all_in, both_ways, all_in_true)

cond_mem : (y : Set) (s w : ℕ) (b : Bool) → y (cond b s w) ≡ cond b (y s) (y w)
cond_mem y s w true = refl
cond_mem y s w false = refl

pub same_cut : {x y : List ℕ} {c c' d d' : Shape} → x ≡ y → c ≡ c' → d ≡ d' → cut x c d ≡ cut y c' d'
same_cut e k m = rw e (rw k (rw m refl))

-- the shore z is the set `first`, and its complement is `second`
pub record IsNewShore (g : Graph) (p : List (List ℕ)) (z : List ℕ) (first second : Set) : Type 0 where
  pub members : (w : ℕ) → Within g.order w → mem z w ≡ first w
  pub merged : IsMerge g.order p first (merged_at g.order p z)
  pub kept : IsMerge g.order p second (kept_at g.order p z)

module _ (g : Graph) (p : List (List ℕ)) (stage : Stage g p) (x u v : List ℕ) (s t : ℕ) (bx : Big g p x) (canonical : mem x g.order ≡ false) (su : IsRisingIn g.order u) (sv : IsRisingIn g.order v) (corner : Corner g p (mem x) (mem u) (mem v) s t) where
  abbrev pub in_inner_rest : Set
  in_inner_rest = ExchangedParts.in_inner_rest g p stage x u v s t bx.shore su sv corner

  abbrev pub in_outer_rest : Set
  in_outer_rest = ExchangedParts.in_outer_rest g p stage x u v s t bx.shore su sv corner

  abbrev pub map_a : ℕ → ℕ
  map_a = ExchangedParts.map_a g p stage x u v s t bx.shore su sv corner

  abbrev pub map_b : ℕ → ℕ
  map_b = ExchangedParts.map_b g p stage x u v s t bx.shore su sv corner

  last : Within g.order g.order
  last = let z = big_some g p stage x bx in let w = z.1 in (omega arith, omega arith)

  pub outer_rest-mem : (w : ℕ) → Within g.order w → mem (outer_rest g.order x v) w ≡ in_outer_rest w
  outer_rest-mem = ExchangedParts.outer_rest-mem g p stage x u v s t bx.shore su sv corner

  pub inner_rest-mem : (w : ℕ) → Within g.order w → mem (inner_rest g.order x u) w ≡ in_inner_rest w
  inner_rest-mem = ExchangedParts.inner_rest-mem g p stage x u v s t bx.shore su sv corner

  pub iso_a : (q : List (List ℕ)) → IsMerge g.order p (union in_outer_rest (mem u)) q → Isomorphism g (kept_at g.order p x) q (λ w. cond (in_outer_rest w) t w) map_a
  iso_a = ExchangedParts.iso_a g p stage x u v s t bx.shore su sv corner

  pub iso_b : (q : List (List ℕ)) → IsMerge g.order p (union in_inner_rest (mem v)) q → Isomorphism g (merged_at g.order p x) q (λ w. cond (in_inner_rest w) s w) map_b
  iso_b = ExchangedParts.iso_b g p stage x u v s t bx.shore su sv corner

  -- what a shore below `kept` is like
  module _ (y : List ℕ) (low : mem y g.order ≡ false) (closed : IsUnion g.order (kept_at g.order p x) (mem y)) where
    out_a : (w : ℕ) → Within g.order w → mem x w ≡ false → mem y w ≡ false
    out_a w ww h =
        let r = big_rest g p stage x bx in
        closed w g.order ww last (alike_in g.order p (kept_at g.order p x) (mem (complement_of g.order x)) stage.list.partition r.tight.union (big_merge g p stage (complement_of g.order x) r) w g.order ww last
        (mem-complement_of g.order x w ww ∙ ap not h) (mem-complement_of g.order x g.order last ∙ ap not canonical)) ∙ low

    sub_a : is_subset u y ≡ mem y s
    sub_a =
        let r = big_rest g p stage x bx in
        subset_test u (mem y) s corner.left.holds (λ w m. let ww = (bounds su) w m in
        closed w s ww corner.left.within (alike_up g.order p (kept_at g.order p x) (mem (complement_of g.order x)) stage.list.partition r.tight.union (big_merge g p stage (complement_of g.order x) r) w s ww corner.left.within (corner.left.one w ww m)))

  -- and one below `merged`
  module _ (y : List ℕ) (low : mem y g.order ≡ false) (closed : IsUnion g.order (merged_at g.order p x) (mem y)) where
    in_b : (w : ℕ) → Within g.order w → mem x w ≡ true → mem y w ≡ mem y s
    in_b w ww h = closed w s ww corner.left.within (alike_in g.order p (merged_at g.order p x) (mem x) stage.list.partition bx.tight.union (big_merge g p stage x bx) w s ww corner.left.within h (corner.inside s corner.left.within corner.left.holds))

    sub_b : is_subset x y ≡ mem y s
    sub_b = subset_test x (mem y) s (corner.inside s corner.left.within corner.left.holds) (λ w m. in_b w ((bounds bx.shore) w m) m)

    on_v : (w : ℕ) → Within g.order w → mem v w ≡ true → mem y w ≡ mem y t
    on_v w ww h = closed w t ww corner.right.within (alike_up g.order p (merged_at g.order p x) (mem x) stage.list.partition bx.tight.union (big_merge g p stage x bx) w t ww corner.right.within (corner.right.one w ww h))

    sub_v : is_subset v y ≡ mem y t
    sub_v = subset_test v (mem y) t corner.right.holds (λ w m. on_v w ((bounds sv) w m) m)

  -- n in v: the rule for the leaves of `kept`
  pub kept_greatest_comes : mem v g.order ≡ true → (a : Shape) → AreRising g.order a → Each g.order (kept_at g.order p x) a → kept_if_greatest_comes g.order x u v a ≡ carry g.order map_a a
  kept_greatest_comes nv leaf f e = refl
  kept_greatest_comes nv (cut y a b) f e = node y f.0 e.0 e.1 (kept_greatest_comes nv a f.1 e.2) (kept_greatest_comes nv b f.2 e.3)
    where
      node : (y : List ℕ) → IsRisingIn g.order y → mem y g.order ≡ false → IsUnion g.order (kept_at g.order p x) (mem y) → kept_if_greatest_comes g.order x u v a ≡ carry g.order map_a a → kept_if_greatest_comes g.order x u v b ≡ carry g.order map_a b →
          cut (if is_subset u y then union_list g.order y (outer_rest g.order x v) else y) (kept_if_greatest_comes g.order x u v a) (kept_if_greatest_comes g.order x u v b) ≡ carry_cut g.order map_a y (mem y (map_a g.order)) (carry g.order map_a a) (carry g.order map_a b)
      node y sy low closed ia ib =
          same_cut (ap (λ k. if k then union_list g.order y (outer_rest g.order x v) else y) (sub_a y low closed) ∙ shore (mem y s) refl) ia ib
          ∙ ap (λ k. carry_cut g.order map_a y k (carry g.order map_a a) (carry g.order map_a b)) (sym (cond_mem (mem y) s g.order (in_outer_rest g.order) ∙ off (mem x g.order) (mem v g.order) (mem y s) (mem y g.order) nv low))
        where
          off : (a b c d : Bool) → b ≡ true → d ≡ false → cond (not a && not b) c d ≡ false
          off a b c d h k = grind arith

          shore : (k : Bool) → mem y s ≡ k → (if k then union_list g.order y (outer_rest g.order x v) else y) ≡ rising_list g.order (λ w. mem y (map_a w))
          shore true h = same_rising_list g.order (union_list g.order y (outer_rest g.order x v)) (rising_list g.order (λ w. mem y (map_a w))) (rising_list-rises g.order (union (mem y) (mem (outer_rest g.order x v)))) (rising_list-rises g.order (λ w. mem y (map_a w)))
              (λ w ww. mem-rising_list g.order (union (mem y) (mem (outer_rest g.order x v))) w ww ∙ ap (λ k. mem y w || k) (outer_rest-mem w ww) ∙ bits (in_outer_rest w) (mem y w) (mem y s) h ∙ sym (cond_mem (mem y) s w (in_outer_rest w)) ∙ sym (mem-rising_list g.order (λ w. mem y (map_a w)) w ww))
            where
              bits : (q y z : Bool) → z ≡ true → (y || q) ≡ cond q z y
              bits q y z h = grind arith
          shore false h = same_rising_list g.order y (rising_list g.order (λ w. mem y (map_a w))) sy (rising_list-rises g.order (λ w. mem y (map_a w)))
              (λ w ww. bits (mem x w) (mem v w) (mem y w) (mem y s) h (out_a y low closed w ww) ∙ sym (cond_mem (mem y) s w (in_outer_rest w)) ∙ sym (mem-rising_list g.order (λ w. mem y (map_a w)) w ww))
            where
              bits : (x v y z : Bool) → z ≡ false → (x ≡ false → y ≡ false) → y ≡ cond (not x && not v) z y
              bits x v y z h k = grind arith

  -- n in v: the rule for the leaves of `merged`
  pub merged_greatest_comes : mem v g.order ≡ true → (a : Shape) → AreRising g.order a → Each g.order (merged_at g.order p x) a → merged_if_greatest_comes g.order x u a ≡ carry g.order map_b a
  merged_greatest_comes nv leaf f e = refl
  merged_greatest_comes nv (cut y a b) f e = node y f.0 e.0 e.1 (merged_greatest_comes nv a f.1 e.2) (merged_greatest_comes nv b f.2 e.3)
    where
      node : (y : List ℕ) → IsRisingIn g.order y → mem y g.order ≡ false → IsUnion g.order (merged_at g.order p x) (mem y) → merged_if_greatest_comes g.order x u a ≡ carry g.order map_b a → merged_if_greatest_comes g.order x u b ≡ carry g.order map_b b →
          cut (if is_subset x y then union_list g.order (minus_list g.order y x) u else y) (merged_if_greatest_comes g.order x u a) (merged_if_greatest_comes g.order x u b) ≡ carry_cut g.order map_b y (mem y (map_b g.order)) (carry g.order map_b a) (carry g.order map_b b)
      node y sy low closed ia ib =
          same_cut (ap (λ k. if k then union_list g.order (minus_list g.order y x) u else y) (sub_b y low closed) ∙ shore (mem y s) refl) ia ib
          ∙ ap (λ k. carry_cut g.order map_b y k (carry g.order map_b a) (carry g.order map_b b)) (sym (cond_mem (mem y) t g.order (in_inner_rest g.order) ∙ off (mem x g.order) (mem u g.order) (mem y t) (mem y g.order) canonical low))
        where
          off : (a b c d : Bool) → a ≡ false → d ≡ false → cond (a && not b) c d ≡ false
          off a b c d h k = grind arith

          no_t : mem y t ≡ false
          no_t = sym (on_v y low closed g.order last nv) ∙ low

          shore : (k : Bool) → mem y s ≡ k → (if k then union_list g.order (minus_list g.order y x) u else y) ≡ rising_list g.order (λ w. mem y (map_b w))
          shore true h = same_rising_list g.order (union_list g.order (minus_list g.order y x) u) (rising_list g.order (λ w. mem y (map_b w))) (rising_list-rises g.order (union (mem (minus_list g.order y x)) (mem u))) (rising_list-rises g.order (λ w. mem y (map_b w)))
              (λ w ww. mem-rising_list g.order (union (mem (minus_list g.order y x)) (mem u)) w ww ∙ ap (λ k. k || mem u w) (mem-rising_list g.order (minus (mem y) (mem x)) w ww)
              ∙ bits (mem x w) (mem u w) (mem y w) (mem y s) (mem y t) h no_t (in_b y low closed w ww) (corner.inside w ww) ∙ sym (cond_mem (mem y) t w (in_inner_rest w)) ∙ sym (mem-rising_list g.order (λ w. mem y (map_b w)) w ww))
            where
              bits : (x u y z r : Bool) → z ≡ true → r ≡ false → (x ≡ true → y ≡ z) → (u ≡ true → x ≡ true) → ((y && not x) || u) ≡ cond (x && not u) r y
              bits x u y z r h k l j = grind arith
          shore false h = same_rising_list g.order y (rising_list g.order (λ w. mem y (map_b w))) sy (rising_list-rises g.order (λ w. mem y (map_b w)))
              (λ w ww. bits (mem x w) (mem u w) (mem y w) (mem y s) (mem y t) h no_t (in_b y low closed w ww) ∙ sym (cond_mem (mem y) t w (in_inner_rest w)) ∙ sym (mem-rising_list g.order (λ w. mem y (map_b w)) w ww))
            where
              bits : (x u y z r : Bool) → z ≡ false → r ≡ false → (x ≡ true → y ≡ z) → y ≡ cond (x && not u) r y
              bits x u y z r h k l = grind arith

  -- n in Q: the rule for the leaves of `kept`
  pub kept_greatest_stays : mem v g.order ≡ false → (a : Shape) → AreRising g.order a → Each g.order (kept_at g.order p x) a → kept_if_greatest_stays g.order x u v a ≡ carry g.order map_a a
  kept_greatest_stays nv leaf f e = refl
  kept_greatest_stays nv (cut y a b) f e = node y f.0 e.0 e.1 (kept_greatest_stays nv a f.1 e.2) (kept_greatest_stays nv b f.2 e.3)
    where
      node : (y : List ℕ) → IsRisingIn g.order y → mem y g.order ≡ false → IsUnion g.order (kept_at g.order p x) (mem y) → kept_if_greatest_stays g.order x u v a ≡ carry g.order map_a a → kept_if_greatest_stays g.order x u v b ≡ carry g.order map_a b →
          (if is_subset u y
          then cut (union_list g.order (minus_list g.order x y) v) (kept_if_greatest_stays g.order x u v b) (kept_if_greatest_stays g.order x u v a)
          else cut y (kept_if_greatest_stays g.order x u v a) (kept_if_greatest_stays g.order x u v b)) ≡ carry_cut g.order map_a y (mem y (map_a g.order)) (carry g.order map_a a) (carry g.order map_a b)
      node y sy low closed ia ib =
          ap (λ k. if k then cut (union_list g.order (minus_list g.order x y) v) (kept_if_greatest_stays g.order x u v b) (kept_if_greatest_stays g.order x u v a) else cut y (kept_if_greatest_stays g.order x u v a) (kept_if_greatest_stays g.order x u v b)) (sub_a y low closed)
          ∙ go (mem y s) refl
          ∙ ap (λ k. carry_cut g.order map_a y k (carry g.order map_a a) (carry g.order map_a b)) (sym (cond_mem (mem y) s g.order (in_outer_rest g.order) ∙ on (mem x g.order) (mem v g.order) (mem y s) (mem y g.order) canonical nv))
        where
          on : (a b c d : Bool) → a ≡ false → b ≡ false → cond (not a && not b) c d ≡ c
          on a b c d h k = grind arith

          go : (k : Bool) → mem y s ≡ k → (if k then cut (union_list g.order (minus_list g.order x y) v) (kept_if_greatest_stays g.order x u v b) (kept_if_greatest_stays g.order x u v a) else cut y (kept_if_greatest_stays g.order x u v a) (kept_if_greatest_stays g.order x u v b)) ≡ carry_cut g.order map_a y k (carry g.order map_a a) (carry g.order map_a b)
          go true h = same_cut (same_rising_list g.order (union_list g.order (minus_list g.order x y) v) (rising_list g.order (λ w. not (mem y (map_a w)))) (rising_list-rises g.order (union (mem (minus_list g.order x y)) (mem v))) (rising_list-rises g.order (λ w. not (mem y (map_a w))))
              (λ w ww. mem-rising_list g.order (union (mem (minus_list g.order x y)) (mem v)) w ww ∙ ap (λ k. k || mem v w) (mem-rising_list g.order (minus (mem x) (mem y)) w ww)
              ∙ bits (mem x w) (mem v w) (mem y w) (mem y s) h (out_a y low closed w ww) (corner.outside w ww) ∙ ap not (sym (cond_mem (mem y) s w (in_outer_rest w))) ∙ sym (mem-rising_list g.order (λ w. not (mem y (map_a w))) w ww))) ib ia
            where
              bits : (x v y z : Bool) → z ≡ true → (x ≡ false → y ≡ false) → (v ≡ true → x ≡ false) → ((x && not y) || v) ≡ not (cond (not x && not v) z y)
              bits x v y z h k l = grind arith
          go false h = same_cut (same_rising_list g.order y (rising_list g.order (λ w. mem y (map_a w))) sy (rising_list-rises g.order (λ w. mem y (map_a w)))
              (λ w ww. bits (mem x w) (mem v w) (mem y w) (mem y s) h (out_a y low closed w ww) ∙ sym (cond_mem (mem y) s w (in_outer_rest w)) ∙ sym (mem-rising_list g.order (λ w. mem y (map_a w)) w ww))) ia ib
            where
              bits : (x v y z : Bool) → z ≡ false → (x ≡ false → y ≡ false) → y ≡ cond (not x && not v) z y
              bits x v y z h k = grind arith

  -- n in Q: the rule for the leaves of `merged`
  pub merged_greatest_stays : mem v g.order ≡ false → (a : Shape) → AreRising g.order a → Each g.order (merged_at g.order p x) a → merged_if_greatest_stays g.order x u v a ≡ carry g.order map_b a
  merged_greatest_stays nv leaf f e = refl
  merged_greatest_stays nv (cut y a b) f e = node y f.0 e.0 e.1 (merged_greatest_stays nv a f.1 e.2) (merged_greatest_stays nv b f.2 e.3)
    where
      node : (y : List ℕ) → IsRisingIn g.order y → mem y g.order ≡ false → IsUnion g.order (merged_at g.order p x) (mem y) → merged_if_greatest_stays g.order x u v a ≡ carry g.order map_b a → merged_if_greatest_stays g.order x u v b ≡ carry g.order map_b b →
          cut (merged_shore_if_greatest_stays g.order x u v y) (merged_if_greatest_stays g.order x u v a) (merged_if_greatest_stays g.order x u v b) ≡ carry_cut g.order map_b y (mem y (map_b g.order)) (carry g.order map_b a) (carry g.order map_b b)
      node y sy low closed ia ib =
          same_cut (same_rising_list g.order (merged_shore_if_greatest_stays g.order x u v y) (rising_list g.order (λ w. mem y (map_b w))) (rising_list-rises g.order _) (rising_list-rises g.order (λ w. mem y (map_b w)))
          (λ w ww. shore w ww ∙ bits (mem x w) (mem u w) (mem v w) (mem y w) (mem y s) (mem y t) (in_b y low closed w ww) (on_v y low closed w ww) (corner.inside w ww) (corner.outside w ww)
          ∙ sym (cond_mem (mem y) t w (in_inner_rest w)) ∙ sym (mem-rising_list g.order (λ w. mem y (map_b w)) w ww))) ia ib
          ∙ ap (λ k. carry_cut g.order map_b y k (carry g.order map_b a) (carry g.order map_b b)) (sym (cond_mem (mem y) t g.order (in_inner_rest g.order) ∙ off (mem x g.order) (mem u g.order) (mem y t) (mem y g.order) canonical low))
        where
          off : (a b c d : Bool) → a ≡ false → d ≡ false → cond (a && not b) c d ≡ false
          off a b c d h k = grind arith

          if_mem : (k : Bool) (l : List ℕ) (w : ℕ) → mem (list_if k l) w ≡ cond k (mem l w) false
          if_mem true l w = refl
          if_mem false l w = refl

          shore : (w : ℕ) → Within g.order w → mem (merged_shore_if_greatest_stays g.order x u v y) w ≡ (((mem y w && not (mem x w)) && not (mem v w)) || (cond (mem y s) (mem u w) false || cond (mem y t) (in_inner_rest w || mem v w) false))
          shore w ww =
              mem-rising_list g.order (union (mem (minus_list g.order (minus_list g.order y x) v)) (mem (union_list g.order (list_if (is_subset x y) u) (list_if (is_subset v y) (union_list g.order (inner_rest g.order x u) v))))) w ww
              ∙ ap₂ ◌||◌ (mem-rising_list g.order (minus (mem (minus_list g.order y x)) (mem v)) w ww ∙ ap (λ k. k && not (mem v w)) (mem-rising_list g.order (minus (mem y) (mem x)) w ww))
              (mem-rising_list g.order (union (mem (list_if (is_subset x y) u)) (mem (list_if (is_subset v y) (union_list g.order (inner_rest g.order x u) v)))) w ww
              ∙ ap₂ ◌||◌ (if_mem (is_subset x y) u w ∙ ap (λ k. cond k (mem u w) false) (sub_b y low closed))
              (if_mem (is_subset v y) (union_list g.order (inner_rest g.order x u) v) w ∙ ap₂ (λ k l. cond k l false) (sub_v y low closed) (mem-rising_list g.order (union (mem (inner_rest g.order x u)) (mem v)) w ww ∙ ap (λ k. k || mem v w) (inner_rest-mem w ww))))

          bits : (x u v y z r : Bool) → (x ≡ true → y ≡ z) → (v ≡ true → y ≡ r) → (u ≡ true → x ≡ true) → (v ≡ true → x ≡ false) →
              (((y && not x) && not v) || (cond z u false || cond r ((x && not u) || v) false)) ≡ cond (x && not u) r y
          bits x u v y z r a b c d = grind arith

  new_shore : (z : List ℕ) → Big g p z → (first second : Set) → ((w : ℕ) → Within g.order w → mem z w ≡ first w) → ((w : ℕ) → Within g.order w → not (first w) ≡ second w) → IsNewShore g p z first second
  new_shore z bz first second is other = record {
    members = is;
    merged = merge_congr g.order p (merged_at g.order p z) (mem z) first is (big_merge g p stage z bz);
    kept = merge_congr g.order p (kept_at g.order p z) (mem (complement_of g.order z)) second (λ w ww. mem-complement_of g.order z w ww ∙ ap not (is w ww) ∙ other w ww) (big_merge g p stage (complement_of g.order z) (big_rest g p stage z bz));
  }

  -- the new shore with n in v
  pub new_shore_comes : Big g p (union_list g.order (outer_rest g.order x v) u) → IsNewShore g p (union_list g.order (outer_rest g.order x v) u) (union in_outer_rest (mem u)) (union in_inner_rest (mem v))
  new_shore_comes bz =
      new_shore (union_list g.order (outer_rest g.order x v) u) bz (union in_outer_rest (mem u)) (union in_inner_rest (mem v))
      (λ w ww. mem-rising_list g.order (union (mem (outer_rest g.order x v)) (mem u)) w ww ∙ ap (λ k. k || mem u w) (outer_rest-mem w ww))
      (λ w ww. grind (arith, corner.inside w ww, corner.outside w ww))

  pub new_shore_stays : Big g p (union_list g.order (inner_rest g.order x u) v) → IsNewShore g p (union_list g.order (inner_rest g.order x u) v) (union in_inner_rest (mem v)) (union in_outer_rest (mem u))
  new_shore_stays bz =
      new_shore (union_list g.order (inner_rest g.order x u) v) bz (union in_inner_rest (mem v)) (union in_outer_rest (mem u))
      (λ w ww. mem-rising_list g.order (union (mem (inner_rest g.order x u)) (mem v)) w ww ∙ ap (λ k. k || mem v w) (inner_rest-mem w ww))
      (λ w ww. grind (arith, corner.inside w ww, corner.outside w ww))

  pub switch_greatest_comes : (a b : Shape) → AreRising g.order (cut x a b) → IsDerivationAt g p (cut x a b) → mem v g.order ≡ true → Big g p (union_list g.order (outer_rest g.order x v) u) →
      IsDerivationAt g p (cut (union_list g.order (outer_rest g.order x v) u) (merged_if_greatest_comes g.order x u b) (kept_if_greatest_comes g.order x u v a))
  switch_greatest_comes a b f d nv bz =
      let z = union_list g.order (outer_rest g.order x v) u in
      let new = new_shore_comes bz in
      let rx = big_rest g p stage x bx in
      let ska = stage_merged g p stage (complement_of g.order x) rx in
      let sma = stage_merged g p stage x bx in (
        big_cut g p stage z bz (new.members g.order last ∙ gone (mem x g.order) (mem u g.order) (mem v g.order) nv canonical (corner.inside g.order last)),
        subst (IsDerivationAt g (kept_at g.order p z)) (sym (merged_greatest_comes nv b f.2 (each_of g (merged_at g.order p x) b sma f.2 d.2)))
            (carried_derives g stage.graph (λ w. cond (in_inner_rest w) s w) map_b b (merged_at g.order p x) (kept_at g.order p z) sma.list.partition new.kept.partition (iso_b (kept_at g.order p z) new.kept) f.2 d.2),
        subst (IsDerivationAt g (merged_at g.order p z)) (sym (kept_greatest_comes nv a f.1 (each_of g (kept_at g.order p x) a ska f.1 d.1)))
            (carried_derives g stage.graph (λ w. cond (in_outer_rest w) t w) map_a a (kept_at g.order p x) (merged_at g.order p z) ska.list.partition new.merged.partition (iso_a (merged_at g.order p z) new.merged) f.1 d.1),
      )
    where
      gone : (x u v : Bool) → v ≡ true → x ≡ false → (u ≡ true → x ≡ true) → ((not x && not v) || u) ≡ false
      gone x u v h k l = grind arith

  pub switch_greatest_stays : (a b : Shape) → AreRising g.order (cut x a b) → IsDerivationAt g p (cut x a b) → mem v g.order ≡ false → Big g p (union_list g.order (inner_rest g.order x u) v) →
      IsDerivationAt g p (cut (union_list g.order (inner_rest g.order x u) v) (kept_if_greatest_stays g.order x u v a) (merged_if_greatest_stays g.order x u v b))
  switch_greatest_stays a b f d nv bz =
      let z = union_list g.order (inner_rest g.order x u) v in
      let new = new_shore_stays bz in
      let rx = big_rest g p stage x bx in
      let ska = stage_merged g p stage (complement_of g.order x) rx in
      let sma = stage_merged g p stage x bx in (
        big_cut g p stage z bz (new.members g.order last ∙ gone (mem x g.order) (mem u g.order) (mem v g.order) nv canonical),
        subst (IsDerivationAt g (kept_at g.order p z)) (sym (kept_greatest_stays nv a f.1 (each_of g (kept_at g.order p x) a ska f.1 d.1)))
            (carried_derives g stage.graph (λ w. cond (in_outer_rest w) t w) map_a a (kept_at g.order p x) (kept_at g.order p z) ska.list.partition new.kept.partition (iso_a (kept_at g.order p z) new.kept) f.1 d.1),
        subst (IsDerivationAt g (merged_at g.order p z)) (sym (merged_greatest_stays nv b f.2 (each_of g (merged_at g.order p x) b sma f.2 d.2)))
            (carried_derives g stage.graph (λ w. cond (in_inner_rest w) s w) map_b b (merged_at g.order p x) (merged_at g.order p z) sma.list.partition new.merged.partition (iso_b (merged_at g.order p z) new.merged) f.2 d.2),
      )
    where
      gone : (x u v : Bool) → v ≡ false → x ≡ false → ((x && not u) || v) ≡ false
      gone x u v h k = grind arith
